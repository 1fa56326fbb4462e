use Rattle.std.proofs.Common.{vec_items, arith, rules}
use Rattle.rack.specs.Views.{model_of, rule_of, coding_of}
use Rattle.trace.proofs.Promises.{promised}
use Rattle.pages.proofs.SameRules.{same_next}
use Rattle.trace.proofs.Sequences.{all_more, all_done}
use Rattle.trace.proofs.lists.run.Goals as goal

pub loop-call-preserved : goal.loop-call-preserved
loop-call-preserved g c =
    let rack = c.args.rack.now in
    let R = rule_of rack in
    let Q = rule_of c.loop-call.rack in
    let same = c.loop-call.invariant.same_rule in
    record {
      answered = search rules;
      room = search rules;
      same_rule = same_next R Q (rule_of c.perform-answer.new.rack) same c.perform-answer.ensures.rule_kept;
      ran = all_more R (coding_of rack) Q same _ _ _ c.args.calls.now _ _ c.loop-call.call-index _ c.call-item.result c.perform-answer.result (search rules) (omega arith) c.loop-call.invariant.ran c.call-item.is c.perform-answer.ensures.step c.push_reserved.ensures.items;
    }

pub returns-clause-lawful : goal.returns-clause-lawful
returns-clause-lawful g c =
    let met = g.met.K.Kind in
    let rack = c.args.rack.now in
    all_done (rule_of rack) (coding_of rack) (promised rack g.met.S.Supply.fits_bounds met.long met.least met.back) (model_of rack c.args.memory.now) (model_of c.loop-call.rack c.loop-call.memory) c.args.calls.now (vec_items c.loop-call.answers) c.loop-call.call-index (search rules) (omega arith) (omega arith) c.loop-call.invariant.ran
