-- Two samples of one value are the same, and a coding is read as what was coded.
use Rattle.std.specs.Prelude.{◌≡◌, ◌+◌, ◌*◌, ◌/◌, ◌%◌, ◌<◌, ℤ, FitsSigned}
use Rattle.std.proofs.Common.{rules, of_z, to_z}
use mathlib.Core.HLevel.{is_prop→PathP}
use Rattle.std.proofs.Math.Bridge.{le_prop}
use Rattle.std.specs.Int.Signed.{mag}
use Rattle.std.specs.Int.{w16}
use Rattle.samples.specs.declared.sample.MonoSample.{MonoSample}
use Rattle.samples.specs.MonoCode.{coded_mono, heard_mono}

pub mono_same : (x y : MonoSample) → x.value ≡ y.value → x ≡ y
mono_same x y p = λ i. record { value = p i; fits = is_prop→PathP (λ j. mag (p j) < 32768) (λ j. le_prop) x.fits y.fits i }

back_value : (z : ℤ) → FitsSigned w16 z → to_z w16 (of_z w16 z % 256 + of_z w16 z / 256 % 256 * 256) ≡ z
back_value z f = search rules

pub mono_back : (x : MonoSample) → heard_mono (coded_mono x) ≡ x
mono_back x = mono_same (heard_mono (coded_mono x)) x (back_value x.value (record { sfits = x.fits }))
