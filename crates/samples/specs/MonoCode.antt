-- How a sample of one channel stands in memory: two bytes, the low one first.
use Rattle.std.specs.Prelude.{ℕ, ◌+◌, ◌*◌, ◌/◌, ◌%◌, List, [], ◌∷◌, slice_index}
use Rattle.std.specs.Int.{w16}
use Rattle.std.proofs.Common.{of_z, to_z}
use borrow.Author.Gap.{read_sfits}
use Rattle.samples.specs.declared.sample.MonoSample.{MonoSample}

abbrev pub coded_mono : MonoSample → List ℕ
coded_mono x = (of_z w16 x.value % 256) ∷ (of_z w16 x.value / 256 % 256) ∷ []

-- the sample whose 16 bits read n
abbrev pub sample_of : ℕ → MonoSample
sample_of n = record { value = to_z w16 n; fits = (read_sfits w16 n).sfits }

abbrev pub heard_mono : List ℕ → MonoSample
heard_mono bytes = sample_of (slice_index bytes 0 + slice_index bytes 1 * 256)

abbrev pub silent_mono : MonoSample
silent_mono = sample_of 0
