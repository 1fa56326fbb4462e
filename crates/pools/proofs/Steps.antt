-- Takes and releases over a first fit of 16 pages, filled from the start.
use Rattle.std.proofs.Common.{◌≡◌, ℕ, ◌+◌, ◌*◌, ◌<◌, ◌≤◌, Bool, true, false, List, [], ◌∷◌, ◌++◌, length, get_or, set, replicate, is_ok, Some, None, Ok, Err, Option, Result, sym, ap, ◌∙◌, subst, ⊎_elim, zero-mul, arith}
use Rattle.std.proofs.lemmas.List.{length-set, length-replicate}
use Rattle.std.proofs.lemmas.Bool.{false≢true}
use Rattle.pages.specs.Rule.{Rule}
use Rattle.runs.specs.Bitmap.{clear_in}
use Rattle.classes.specs.declared.class.Class.{Class}
use Rattle.classes.specs.Rule.{size_of, slots_of, pages_of, Smallest}
use Rattle.classes.specs.Long.{LongPages}
use Rattle.pages.specs.FirstFitRule.{first_fit}
use Rattle.runs.specs.declared.run.Run.{Run}
use Rattle.runs.specs.declared.shape.Shape.{Shape}
use Rattle.runs.specs.declared.table.Spot.{Spot}
use Rattle.runs.specs.Loans.{loans}
use Rattle.runs.specs.Shapes.{ShapeOf, slots_in, slots_by, block_size, size_by}
use Rattle.runs.specs.Table.{free, serves, LendsOf, RestoresTo}
use Rattle.pool.specs.declared.block.Block.{Block}
use Rattle.pool.specs.declared.fault.PoolFault.{PoolFault}
use Rattle.pool.specs.Blocks.{start_of, block_of, OnLoan}
use Rattle.pool.specs.Release.{Restored, Releases, Found}
use Rattle.pool.proofs.States.{some_same, entry_within, all_none}
use Rattle.pool.specs.Take.{Lent, NoneServes, Begun, NotBegun, Taken}
use Rattle.pool.proofs.Reuse.{one_smallest}
use Rattle.pools.specs.Edges.{Went}
use Rattle.pool.proofs.Regrant.{not_full}
use Rattle.pools.proofs.Packed.{Packed, packed_none, packed_fits, packed_next, packed_more}
use Rattle.pools.proofs.Rows.{Row, Is, Shows, Rows, changed, serves_row, beaten, low, shows_serves, lowest_low, all_some, vacant_is, vacant_past, rows_more, rows_set, at_row, fullest_is}

-- the rows of the table of runs, and the pages taken
pub record Stage (rs : List (Option Run)) (v : List ℕ) (ms : List (Option Row)) (n : ℕ) : Type 0 where
  pub rows : Rows rs ms
  pub packed : Packed v n
  pub span : length v ≡ 16
  pub long : length rs ≡ 128

-- an empty pool
pub stage_none : (rs : List (Option Run)) (v : List ℕ) → rs ≡ replicate 128 None → length rs ≡ 128 → v ≡ replicate 16 0 → Stage rs v [] 0
stage_none rs v none long e =
    record {
      rows = λ k. subst (λ (o : Option Run). Shows o None) (sym (ap (λ (xs : List (Option Run)). get_or xs k None) none ∙ all_none 128 k)) tt;
      packed = subst (λ (u : List ℕ). Packed u 0) (sym e) (packed_none 16);
      span = ap length e ∙ length-replicate {A = ℕ} 16 0;
      long = long;
    }

-- a new run of the class
abbrev pub fresh : (first class : ℕ) → Row
fresh first class = record { first = first; class = class; lent = set (replicate (slots_of class) false) 0 true }

-- the request's shape, where its class is known
record Cut (s : Shape) (class : ℕ) : Type 0 where
  pub of : Class
  pub is : s.class ≡ Some of
  pub number : of.number ≡ class
  pub count : s.count ≡ pages_of class
  pub slots : slots_in s ≡ slots_of class
  pub size : block_size s ≡ size_of class

cut_of : (bytes class : ℕ) (s : Shape) → Smallest bytes class → ShapeOf bytes s → Cut s class
cut_of bytes class s small asked =
    let k = asked.classed small.within in
    let n = one_smallest bytes k.0.number class k.2 small in
    record {
      of = k.0;
      is = k.1;
      number = n;
      count = s.paged.1 k.0 k.1 ∙ ap pages_of n;
      slots = ap slots_by k.1 ∙ ap slots_of n;
      size = ap (λ (o : Option Class). size_by o s.count) k.1 ∙ ap size_of n;
    }

-- a run begins at the first free page
module _ (span : ℕ) (e : span ≡ 16) (rs ts : List (Option Run)) (v w : List ℕ) (n : ℕ) (p : Packed v n) (s : Shape) (room : n + s.count ≤ 16) where
  begun_first : (q : Spot) → Begun (first_fit span) s rs ts v w q → q.run.first ≡ n
  begun_first q h = packed_next v n p span s.count q.run.first h.added.some (omega arith) h.added.chosen

  begun_start : (q : Spot) (b : Block) → Begun (first_fit span) s rs ts v w q → b ≡ block_of q → b.offset ≡ n * 512
  begun_start q b h k =
      ap (λ (x : Block). x.offset) k ∙ ap (λ (m : ℕ). q.run.first * 512 + m) (ap (λ (m : ℕ). m * block_size q.run.shape) h.slot ∙ zero-mul (block_size q.run.shape))
      ∙ omega (arith, begun_first q h)

  -- it is not refused
  begun_never : (bytes : ℕ) (f : PoolFault) (ms : List (Option Row)) → Rows rs ms → length ms < length rs → 0 < s.count → NotBegun (first_fit span) bytes s.count rs v w f → ⊥
  begun_never bytes f ms h few some k =
      let t = k.unsupplied (not_full rs (length ms) few (vacant_past rs ms h)) in
      (t.1.unfit some (omega arith)).1 (packed_fits v n p span s.count some (omega arith))

-- a request of a class that no row serves
module _ (span : ℕ) (e : span ≡ 16) (bytes class : ℕ) (small : Smallest bytes class) (rs ts : List (Option Run)) (v w : List ℕ) (ms : List (Option Row)) (n : ℕ) (st : Stage rs v ms n)
    (filled : all_some ms ≡ true) (few : length ms < 128) (room : n + pages_of class ≤ 16) (none : (k : ℕ) → serves_row class (get_or ms k None) ≡ false) where
  pub begin_step : (r : Result Block PoolFault) → Taken (first_fit span) bytes rs ts v w r
      → Went (n * 512) (size_of class) r × (Stage ts w (ms ++ (Some (fresh n class) ∷ [])) (n + pages_of class) × (w ≡ set v n (pages_of class)))
  begin_step (Ok b) h =
      let s = h.shape in
      let c = cut_of bytes class s small h.asked in
      let q = h.spot in
      ⊎_elim
      (λ k.
      let l : LendsOf c.of.number rs (Some q) ts = subst (λ (o : Option Class). Lent o rs ts q) c.is k.0 in
      let a : serves_row class (get_or ms q.index None) ≡ true =
      sym (shows_serves class (get_or rs q.index None) (get_or ms q.index None) (st.rows q.index)) ∙ ap (λ (m : ℕ). serves m (get_or rs q.index None)) (sym c.number) ∙ l.0.1 in
      absurd (false≢true (sym (none q.index) ∙ a)))
      (λ k.
      let g = k.1 in
      let fits : n + s.count ≤ 16 = omega (arith, room, c.count) in
      let first = begun_first span e rs ts v w n st.packed s fits q g in
      let index = vacant_is rs ms st.rows filled q.index g.lowest in
      let t = q.run in
      let is : Is t (fresh n class) =
      record {
        first = first;
        class = (c.of, ap (λ (z : Shape). z.class) g.shape ∙ c.is, c.number);
        slots = g.slots ∙ ap (λ (m : ℕ). set (replicate m false) 0 true) c.slots;
      } in
      let put : ts ≡ set rs (length ms) (Some t) = g.put ∙ ap (λ (i : ℕ). set rs i (Some t)) index in
      let after : w ≡ set v n (pages_of class) = g.added.after_is ∙ ap (λ (f : ℕ). set v f s.count) first ∙ ap (set v n) c.count in (
        (begun_start span e rs ts v w n st.packed s fits q b g h.block, h.size ∙ c.size),
        (
          record {
            rows = subst (λ (us : List (Option Run)). Rows us (ms ++ (Some (fresh n class) ∷ []))) (sym put) (rows_more rs ms st.rows (omega (arith, few, st.long)) t (fresh n class) is);
            packed = subst (λ (u : List ℕ). Packed u (n + pages_of class)) (sym after) (packed_more v n st.packed (pages_of class) (omega arith) (omega (arith, room, st.span)));
            span = ap length after ∙ length-set v n (pages_of class) ∙ st.span;
            long = ap length put ∙ length-set rs (length ms) (Some t) ∙ st.long;
          },
          after,
        ),
      ))
      h.from
  begin_step (Err f) h =
      let k = h.unbegun small.some (omega (arith, small.within)) in
      let c = cut_of bytes class k.0 small k.1 in
      absurd (begun_never span e rs ts v w n st.packed k.0 (omega (arith, room, c.count)) bytes f ms st.rows (omega (arith, few, st.long)) (omega (arith, k.0.paged.0)) k.3)

-- a request too long for a class
module _ (span : ℕ) (e : span ≡ 16) (bytes count : ℕ) (long : LongPages bytes count) (rs ts : List (Option Run)) (v w : List ℕ) (ms : List (Option Row)) (n : ℕ) (st : Stage rs v ms n)
    (few : length ms < 128) (room : n + count ≤ 16) where
  own_count : (s : Shape) → ShapeOf bytes s → (s.class ≡ None) × (s.count ≡ count)
  own_count s asked = let k = asked.own long.long in (k.0, omega (arith, k.1.least count long.holds, long.least s.count k.1.holds))

  pub own_step : (r : Result Block PoolFault) → Taken (first_fit span) bytes rs ts v w r → Went (n * 512) (count * 512) r × (w ≡ set v n count)
  own_step (Ok b) h =
      let s = h.shape in
      let q = h.spot in
      let c = own_count s h.asked in
      ⊎_elim
      (λ k. absurd (subst (λ (o : Option Class). Lent o rs ts q) c.0 k.0))
      (λ k.
      let fits : n + s.count ≤ 16 = omega (arith, room, c.1) in (
        (begun_start span e rs ts v w n st.packed s fits q b k.1 h.block, h.size ∙ ap (λ (o : Option Class). size_by o s.count) c.0 ∙ ap (λ (m : ℕ). m * 512) c.1),
        k.1.added.after_is ∙ ap (λ (f : ℕ). set v f s.count) (begun_first span e rs ts v w n st.packed s fits q k.1) ∙ ap (set v n) c.1,
      ))
      h.from
  own_step (Err f) h =
      let k = h.unbegun (omega (arith, long.long)) long.within in
      let c = own_count k.0 k.1 in
      absurd (begun_never span e rs ts v w n st.packed k.0 (omega (arith, room, c.1)) bytes f ms st.rows (omega (arith, few, st.long)) (omega (arith, k.0.paged.0)) k.3)

-- a request of a class of which the row at j is used
module _ (R : Rule) (bytes class : ℕ) (small : Smallest bytes class) (rs ts : List (Option Run)) (v w : List ℕ) (ms : List (Option Row)) (n : ℕ) (st : Stage rs v ms n)
    (j : ℕ) (m : Row) (here : get_or ms j None ≡ Some m) (within : j < length ms) (on : serves_row class (Some m) ≡ true) (strict : (i : ℕ) → (i ≡ j → ⊥) → beaten class m (get_or ms i None) ≡ true) where
  -- some run serves it
  served : (s : Shape) → ShapeOf bytes s → NoneServes s.class rs → ⊥
  served s asked none =
      let c = cut_of bytes class s small asked in
      let k = subst (λ (o : Option Class). NoneServes o rs) c.is none in
      let r = at_row rs ms st.rows j m here in
      let a : serves class (get_or rs j None) ≡ true = shows_serves class (get_or rs j None) (get_or ms j None) (st.rows j) ∙ ap (serves_row class) here ∙ on in
      false≢true (sym (k j (entry_within rs j r.0 r.1)) ∙ ap (λ (x : ℕ). serves x (get_or rs j None)) c.number ∙ a)

  pub lend_step : (r : Result Block PoolFault) → Taken R bytes rs ts v w r
      → Went (m.first * 512 + low m.lent * size_of class) (size_of class) r × (Stage ts w (set ms j (Some (changed m (low m.lent) true))) n × (w ≡ v))
  lend_step (Ok b) h =
      let s = h.shape in
      let c = cut_of bytes class s small h.asked in
      let q = h.spot in
      ⊎_elim
      (λ k.
      let l : LendsOf class rs (Some q) ts = subst (λ (x : ℕ). LendsOf x rs (Some q) ts) c.number (subst (λ (o : Option Class). Lent o rs ts q) c.is k.0) in
      let index : q.index ≡ j = fullest_is class rs ms st.rows j m here on strict q.index q.run l.1 l.0 in
      let x = at_row rs ms st.rows j m here in
      let run : q.run ≡ x.0 = some_same q.run x.0 (sym l.1 ∙ ap (λ (i : ℕ). get_or rs i None) index ∙ x.1) in
      let is : Is q.run m = subst (λ (r : Run). Is r m) (sym run) x.2 in
      let slot : q.slot ≡ low m.lent = lowest_low (loans q.run.slots) q.slot l.2.2.0 ∙ ap low is.slots in
      let t = l.2.0 in
      let g = l.2.2.1 in
      let size : block_size q.run.shape ≡ size_of class = ap (λ (y : Block). y.size) (sym h.block) ∙ h.size ∙ c.size in
      let new : Is t (changed m (low m.lent) true) =
      record {
        first = g.first ∙ is.first;
        class = (is.class.0, ap (λ (z : Shape). z.class) g.shape ∙ is.class.1, is.class.2);
        slots = g.slots ∙ ap (λ (bs : List Bool). set bs q.slot true) is.slots ∙ ap (λ (i : ℕ). set m.lent i true) slot;
      } in
      let put : ts ≡ set rs j (Some t) = l.2.1 ∙ ap (λ (i : ℕ). set rs i (Some t)) index in (
        (
          ap (λ (y : Block). y.offset) h.block ∙ ap (λ (f : ℕ). f * 512 + q.slot * block_size q.run.shape) is.first ∙ ap (λ (i : ℕ). m.first * 512 + i * block_size q.run.shape) slot
              ∙ ap (λ (z : ℕ). m.first * 512 + low m.lent * z) size,
          h.size ∙ c.size,
        ),
        (
          record {
            rows = subst (λ (us : List (Option Run)). Rows us (set ms j (Some (changed m (low m.lent) true)))) (sym put) (rows_set rs ms st.rows j t (changed m (low m.lent) true) (entry_within rs j x.0 x.1) within new);
            packed = subst (λ (u : List ℕ). Packed u n) (sym k.1) st.packed;
            span = ap length k.1 ∙ st.span;
            long = ap length put ∙ length-set rs j (Some t) ∙ st.long;
          },
          k.1,
        ),
      ))
      (λ k. absurd (served s h.asked k.0))
      h.from
  lend_step (Err f) h =
      let k = h.unbegun small.some (omega (arith, small.within)) in
      absurd (served k.0 k.1 k.2)

-- a slot of the row at j comes back, and not its last
module _ (R : Rule) (rs ts : List (Option Run)) (v w : List ℕ) (ms : List (Option Row)) (n : ℕ) (st : Stage rs v ms n)
    (j : ℕ) (m : Row) (here : get_or ms j None ≡ Some m) (within : j < length ms) (s : ℕ) (lent : get_or m.lent s false ≡ true) (more : clear_in m.lent + 1 < slots_of m.class) where
  pub release_step : (offset : ℕ) → offset ≡ m.first * 512 + s * size_of m.class → (r : Result (Unit {0}) PoolFault) → Releases R rs ts v w offset r → Found rs offset r
      → (is_ok r ≡ true) × Stage ts w (set ms j (Some (changed m s false))) n
  release_step offset at r h found =
      let x = at_row rs ms st.rows j m here in
      let run = x.0 in
      let is = x.2 in
      let q : Spot = record { index = j; run = run; slot = s } in
      let l : OnLoan rs q = (x.1, ap (λ (bs : List Bool). get_or bs s false) is.slots ∙ lent) in
      let size : block_size run.shape ≡ size_of m.class = ap (λ (o : Option Class). size_by o run.shape.count) is.class.1 ∙ ap size_of is.class.2 in
      let slots : slots_in run.shape ≡ slots_of m.class = ap slots_by is.class.1 ∙ ap slots_of is.class.2 in
      let start : start_of q ≡ offset = ap (λ (f : ℕ). f * 512 + s * block_size run.shape) is.first ∙ ap (λ (z : ℕ). m.first * 512 + s * z) size ∙ sym at in
      (found q l start, go q within l start (omega (arith, more, ap clear_in is.slots, slots)) is r h (found q l start))
    where
      go : (q : Spot) → q.index < length ms → OnLoan rs q → start_of q ≡ offset → free q.run + 1 < slots_in q.run.shape → Is q.run m → (r : Result (Unit {0}) PoolFault) → Releases R rs ts v w offset r → is_ok r ≡ true
          → Stage ts w (set ms q.index (Some (changed m q.slot false))) n
      go q low l start some is (Err f) h ok = absurd (false≢true ok)
      go q low l start some is (Ok u) h ok =
          let i = q.index in
          let back = (subst (λ (p : Spot). Restored R p rs ts v w) (sym (h.only q l start)) h.restored).more some in
          let k = subst (λ (o : Option Run). RestoresTo o rs i q.slot ts) l.0 back.0 in
          let t = k.0 in
          let e = k.2 in
          let new : Is t (changed m q.slot false) =
          record {
            first = e.first ∙ is.first;
            class = (is.class.0, ap (λ (z : Shape). z.class) e.shape ∙ is.class.1, is.class.2);
            slots = e.slots ∙ ap (λ (bs : List Bool). set bs q.slot false) is.slots;
          } in
          record {
            rows = subst (λ (us : List (Option Run)). Rows us (set ms i (Some (changed m q.slot false)))) (sym k.1) (rows_set rs ms st.rows i t (changed m q.slot false) (entry_within rs i q.run l.0) low new);
            packed = subst (λ (u : List ℕ). Packed u n) (sym back.1) st.packed;
            span = ap length back.1 ∙ st.span;
            long = ap length k.1 ∙ length-set rs i (Some t) ∙ st.long;
          }
