-- How a sample of two channels stands in memory: left, then right, each as one channel.
use Rattle.std.specs.Prelude.{ℕ, List, ◌++◌, take, drop}
use Rattle.samples.specs.declared.sample.StereoSample.{StereoSample}
use Rattle.samples.specs.MonoCode.{coded_mono, heard_mono, silent_mono}

abbrev pub coded_stereo : StereoSample → List ℕ
coded_stereo x = coded_mono x.left ++ coded_mono x.right

abbrev pub heard_stereo : List ℕ → StereoSample
heard_stereo bytes = record { left = heard_mono (take 2 bytes); right = heard_mono (drop 2 bytes) }

abbrev pub silent_stereo : StereoSample
silent_stereo = record { left = silent_mono; right = silent_mono }
