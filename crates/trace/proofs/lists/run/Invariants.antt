use Rattle.std.proofs.Common.{◌≡◌, ◌≤◌, length, take, vec_items, vec_len, vec_capacity}
use Rattle.pages.specs.Rule.{SameRule}
use Rattle.rack.specs.Views.{model_of, rule_of, coding_of}
use Rattle.trace.specs.Steps.{Ran, beside}
use Rattle.trace.proofs.lists.run.Given as goal

-- the calls so far were made and answered so, by the rule that the supply had at first
abbrev pub invariant-loop-call : goal.invariant-loop-call
invariant-loop-call g l =
    let R = rule_of l.initial.rack in
    record {
      answered : vec_len l.answers ≡ l.call-index;
      room : length l.calls ≤ vec_capacity l.answers;
      same_rule : SameRule R (rule_of l.rack);
      ran : Ran R (coding_of l.initial.rack) (model_of l.initial.rack l.initial.memory) (beside (take l.call-index l.calls) (vec_items l.answers)) (model_of l.rack l.memory);
    }
