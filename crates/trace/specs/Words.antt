-- What prints of a call and of its answer, by what prints of a sample.
use Rattle.std.specs.Prelude.{ℕ, List, ◌++◌, Some, Option, codes}
use Rattle.std.specs.Fmt.{decimal, ◌++?◌}
use Rattle.trace.specs.declared.call.Call.{Call}
use Rattle.trace.specs.declared.call.Call.TheVariants.{Open, Feed, Tick, Tap, Ring, Close}
use Rattle.trace.specs.declared.call.Answer.{Answer}
use Rattle.trace.specs.declared.call.Answer.TheVariants.{Opened, Done, Heard}

abbrev pub call_words : {X : Type 0} → (X → Option (List ℕ)) → Call X → Option (List ℕ)
call_words words (Open k len) = Some (codes "open " ++ decimal k ++ codes " " ++ decimal len)
call_words words (Feed k x) = Some (codes "feed " ++ decimal k ++ codes " ") ++? words x
call_words words (Tick k) = Some (codes "tick " ++ decimal k)
call_words words (Tap k d) = Some (codes "tap " ++ decimal k ++ codes " " ++ decimal d)
call_words words (Ring k) = Some (codes "ring " ++ decimal k)
call_words words (Close k) = Some (codes "close " ++ decimal k)

abbrev pub answer_words : {X : Type 0} → (X → Option (List ℕ)) → Answer X → Option (List ℕ)
answer_words words (Opened offset) = Some (codes "at " ++ decimal offset)
answer_words words Done = Some (codes "done")
answer_words words (Heard x) = words x
