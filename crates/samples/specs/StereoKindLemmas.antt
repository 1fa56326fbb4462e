-- A stereo sample of its two channels, for the law that reading a coding gives the sample back.
use Rattle.samples.specs.declared.sample.MonoSample.{MonoSample}
use Rattle.samples.specs.declared.sample.StereoSample.{StereoSample}

unfoldable pub both : MonoSample → MonoSample → StereoSample
both l r = record { left = l; right = r }
