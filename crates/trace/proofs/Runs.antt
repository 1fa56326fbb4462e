-- Every run from a new rack keeps the law.
use Rattle.std.proofs.Common.{◌≡◌, ℕ, ◌+◌, ◌*◌, ◌<◌, ◌≤◌, true, List, [], ◌∷◌, ◌++◌, length, set, is_ok, Ok, Err, Option, Result, MatchResult, sym, refl, ap, ◌∙◌, subst, inl, inr, ⊎_elim, arith}
use Rattle.std.proofs.lemmas.List.{get_or-set_same}
use Rattle.std.proofs.lemmas.Bool.{false≢true}
use Rattle.classes.specs.Blocks.{block_bytes}
use Rattle.runs.specs.declared.run.Run.{Run}
use Rattle.runs.specs.declared.table.Spot.{Spot}
use Rattle.runs.specs.Shapes.{block_size}
use Rattle.runs.proofs.Requests.{size_of_request, shape_of_size}
use Rattle.pool.specs.declared.block.Block.{Block}
use Rattle.pool.specs.declared.fault.PoolFault.{PoolFault}
use Rattle.pool.specs.Blocks.{BlockOnLoan, Drops}
use Rattle.pool.specs.Take.{Taken}
use Rattle.pool.proofs.Loaned.{taken_adds, restored_drops}
use Rattle.pool.proofs.Reuse.{taken_reuses}
use Rattle.pool.proofs.Regrant.{granted_again}
use Rattle.pool.proofs.Lifetime.{Alive, alive_taken, alive_released}
use Rattle.pages.proofs.SameRules.{same_rule}
use Rattle.rack.specs.declared.fault.RackFault.{RackFault}
use Rattle.rack.specs.declared.line.Line.{Line}
use Rattle.rack.specs.declared.state.State.{State}
use Rattle.rack.specs.declared.state.Verb.TheVariants as verb
use Rattle.rack.specs.Lines.{unused, line, InUse, fresh, fed, rung, place, patched, tapped}
use Rattle.rack.specs.Holds.{block_at}
use Rattle.pages.specs.Rule.{Rule}
use Rattle.rack.specs.Model.{Model, fresh_model, Coding, Opens, OpensAs, open_checks, open_answer, open_lines, Rings, Closes, Written, tap_answer}
use Rattle.rack.proofs.Keeping.{Tidy, tidy_fed, tidy_rung, tidy_close, tidy_to}
use Rattle.rack.proofs.Loans.{AddsOn, adds_on, tidy_opened}
use Rattle.rack.proofs.Rooms.{row, line_room, samples_fit}
use Rattle.trace.specs.declared.call.Call.{Call}
use Rattle.trace.specs.declared.call.Call.TheVariants.{Open, Feed, Tick, Tap, Ring, Close}
use Rattle.trace.specs.declared.call.Answer.TheVariants.{Opened, Done, Heard}
use Rattle.trace.specs.Steps.{Reply, opened, acknowledged, heard, Step, Deed, Ran}
use Rattle.trace.specs.Book.{Phase, playing, Entry, idle, active, Book, empty, write, more, rang, note, noted, book}
use Rattle.trace.specs.Law.{book_state, Tells, Law, KeepsLaw}
use Rattle.trace.proofs.Promises.{Promises}
use Rattle.trace.proofs.Memories.{Disjoint, feed_holds, other_holds, tap_holds, recalled}
use Rattle.trace.proofs.Verdicts.{not_ok, ok_same, done_turns, write_ok, tap_ok, checks_ok, checks_pass}
use Rattle.trace.proofs.Loans.{Owned, owned_same, owned_open, owned_close}
use Rattle.trace.proofs.Ties.{Agrees, Tied, phase_used, agree_write, agree_to, tied_new, tied_same, below, next_in, blocks_apart, agrees, apart, housed, filled, keeps}

module _ {X : Type 0} {C : Coding X} {b : Book X} {m : Model} (i : Tied C b m) where
  -- a granted ring
  tied_ring : (n : Model) (k : ℕ) (u : Unit {0}) → Rings m k (Ok u) n → Tied C (write b k (rang (b k))) n
  tied_ring n k u s =
      let f = done_turns verb.Ring m.lines k u s.0 in
      let h = below i k f.0 in
      let l = line m.lines k in
      subst (Tied C (write b k (rang (b k)))) (sym s.1)
      (record {
        alive = i.alive;
        tidy = tidy_rung (BlockOnLoan m.runs) C.wide m.lines k h f.1 i.tidy;
        owned = owned_same (BlockOnLoan m.runs) C.wide m.lines k h i.owned (rung l) (sym f.1) refl;
        agree = agree_write C m.memory m.lines k (rung l) b (rang (b k)) h (mine (b k) f.1 (i.agree k)) (λ j ne. i.agree j);
      })
    where
      mine : (e : Entry X) → InUse (line m.lines k) → Agrees C m.memory (line m.lines k) e → Agrees C m.memory (rung (line m.lines k)) (rang e)
      mine idle v a = absurd (omega arith)
      mine (active p len g o z) v a = (refl, a.1, a.2, a.3, a.4)

  -- an open, granted or refused
  tied_open : (R : Rule) (n : Model) (k len : ℕ) (r : Result ℕ RackFault) → Opens R C.wide m k len r n → Tied C (note C b (Open k len) (opened r)) n
  tied_open R n k len r s = go (open_checks C.wide m k len) refl r s
    where
      rs : List (Option Run)
      rs = m.runs

      w : ℕ
      w = C.wide

      sized : ℕ → ℕ → Block
      sized offset size = record { offset = offset; size = size }

      tables : (a : Result Block PoolFault) → Taken R (len * w) rs n.runs m.pages n.pages a → Alive n.runs n.pages
      tables a t = alive_taken rs m.pages i.alive R (len * w) n.runs n.pages a t

      answered : (c : State) → open_checks w m k len ≡ Ok c → (a : Result Block PoolFault) → Taken R (len * w) rs n.runs m.pages n.pages a
          → n.lines ≡ open_lines m.lines k len a → n.memory ≡ m.memory → Tied C (note C b (Open k len) (opened (open_answer k a))) n
      answered c e (Err g) t ls mem =
          record {
            alive = tables (Err g) t;
            tidy = tidy_to BlockOnLoan w rs n.runs m.lines n.lines t.runs_kept ls i.tidy;
            owned = subst (λ (x : List (Option Run)). Owned (BlockOnLoan x) w n.lines) (sym t.runs_kept) (subst (Owned (BlockOnLoan rs) w) (sym ls) i.owned);
            agree = agree_to C m.lines n.lines m.memory n.memory b ls mem i.agree;
          }
      answered c e (Ok d) t ls mem =
          let f = checks_ok w m k len c e in
          let h = below i k f.0 in
          let st = i.alive in
          let after = tables (Ok d) t in
          let adds = taken_adds rs m.pages st.state.out st.state.differ st.inside st.apart R (len * w) n.runs n.pages (Ok d) t in
          let is : d ≡ block_at w (fresh d.offset len) = ap (sized d.offset) (t.size ∙ size_of_request (len * w) t.shape t.asked) in
          let new = active playing len [] d.offset (block_bytes (len * w)) in
          record {
            alive = after;
            tidy = subst (Tidy (BlockOnLoan n.runs) w) (sym ls)
                (tidy_opened BlockOnLoan w m.lines rs n.runs m.pages n.pages k h i.tidy R len (Ok d) t
                (λ x same. subst (AddsOn (BlockOnLoan rs) (BlockOnLoan n.runs)) (ok_same d x same) (adds_on rs n.runs n.pages after.state.out after.state.differ after.inside after.apart d adds)) f.3 f.1 f.2);
            owned = subst (Owned (BlockOnLoan n.runs) w) (sym ls) (owned_open (BlockOnLoan rs) w m.lines k h i.owned (BlockOnLoan n.runs) len d f.3 is adds.only);
            agree = agree_to C (set m.lines k (fresh d.offset len)) n.lines m.memory n.memory (write b k new) ls mem
                (agree_write C m.memory m.lines k (fresh d.offset len) b new h (refl, refl, refl, refl, (omega arith, λ j x z. absurd (omega arith))) (λ j ne. i.agree j));
          }

      go : (c : Result State RackFault) → open_checks w m k len ≡ c → (r : Result ℕ RackFault) → OpensAs R w m k len c r n → Tied C (note C b (Open k len) (opened r)) n
      go (Err f) e (Ok o) y = not_ok f o (sym y.0)
      go (Err f) e (Err g) y = tied_same i n y.1
      go (Ok c) e r y = subst (λ (x : Result ℕ RackFault). Tied C (note C b (Open k len) (opened x)) n) (sym y.2) (answered c e y.0 y.1 y.3 y.4)

  -- a granted close
  tied_close : (R : Rule) (n : Model) (k : ℕ) (u : Unit {0}) → Closes R m k (Ok u) n → Tied C (write b k idle) n
  tied_close R n k u s =
      let f = done_turns verb.Close m.lines k u s.0 in
      let h = below i k f.0 in
      let w = C.wide in
      let c = s.1 in
      let st = i.alive in
      let r = c.released in
      let drops : Drops m.runs n.runs (line m.lines k).offset =
      subst (Drops m.runs n.runs) r.begins
      (restored_drops m.runs m.pages st.state.out st.state.differ st.inside st.apart r.spot r.on_loan R n.runs n.pages (st.state.used (r.spot.index, r.spot.run, r.on_loan.0)) r.restored) in
      record {
        alive = alive_released m.runs m.pages st R n.runs n.pages (line m.lines k).offset r;
        tidy = subst (Tidy (BlockOnLoan n.runs) w) (sym c.lines) (tidy_close (BlockOnLoan m.runs) (BlockOnLoan n.runs) w m.lines k h f.1 drops.kept i.tidy);
        owned = subst (Owned (BlockOnLoan n.runs) w) (sym c.lines) (owned_close (BlockOnLoan m.runs) w m.lines k h i.owned (BlockOnLoan n.runs) drops.only);
        agree = agree_to C (set m.lines k unused) n.lines m.memory n.memory (write b k idle) c.lines c.memory (agree_write C m.memory m.lines k unused b idle h refl (λ j ne. i.agree j));
      }

module _ {X : Type 0} (C : Coding X) where
  -- the last step of a run
  ran_split : (R : Rule) (m n : Model) (log : List (Deed X)) (d : Deed X) → Ran R C m (log ++ d ∷ []) n → (k : Model) × Ran R C m log k × Step R C k d.0 d.1 n
  ran_split R m n [] d r = (m, refl, subst (Step R C m d.0 d.1) (sym r.2) r.1)
  ran_split R m n (e ∷ log) d r = let s = ran_split R r.0 n log d r.2 in (s.0, (r.0, r.1, s.1), s.2)

  -- one call more at the end of a run
  pub ran_more : (R : Rule) (m n k : Model) (log : List (Deed X)) (c : Call X) (a : Reply X) → Ran R C m log n → Step R C n c a k → Ran R C m (log ++ (c, a) ∷ []) k
  ran_more R m n k [] c a r s = (k, subst (λ (x : Model). Step R C x c a k) r s, refl)
  ran_more R m n k (d ∷ log) c a r s = (r.0, r.1, ran_more R r.0 n k log c a r.2 s)

-- what needs that each sample is coded in as many bytes as the width, of which there are some
module _ {X : Type 0} (C : Coding X) (long : (x : X) → length (C.coded x) ≡ C.wide) (wide : 1 ≤ C.wide) where
  module _ {b : Book X} {m : Model} (i : Tied C b m) where
    -- a granted feed, or tick
    tied_written : (n : Model) (k : ℕ) (x : X) → k < 64 → InUse (line m.lines k) → length m.memory ≡ length m.pages * 512 → Written C.coded C.wide m k x n → Tied C (write b k (more x (b k))) n
    tied_written n k x low u whole s =
        record {
          alive = subst (λ (v : List ℕ). Alive n.runs v) (sym s.pages) (subst (λ (xs : List (Option Run)). Alive xs m.pages) (sym s.runs) i.alive);
          tidy = tidy_to BlockOnLoan C.wide m.runs n.runs (set m.lines k (fed l)) n.lines s.runs s.lines (tidy_fed (BlockOnLoan m.runs) C.wide m.lines k h u i.tidy);
          owned = subst (λ (xs : List (Option Run)). Owned (BlockOnLoan xs) C.wide n.lines) (sym s.runs)
              (subst (Owned (BlockOnLoan m.runs) C.wide) (sym s.lines) (owned_same (BlockOnLoan m.runs) C.wide m.lines k h i.owned (fed l) refl refl));
          agree = agree_to C (set m.lines k (fed l)) n.lines after n.memory (write b k (more x (b k))) s.lines s.memory
              (agree_write C after m.lines k (fed l) b (more x (b k)) h (mine (b k) (i.agree k)) (λ j ne. theirs j ne (b j) (i.agree j)));
        }
      where
        l : Line
        l = line m.lines k

        after : List ℕ
        after = patched m.memory (place C.wide l l.next) (C.coded x)

        h : k < length m.lines
        h = below i k low

        fits : (j : ℕ) → InUse (line m.lines j) → (line m.lines j).length * C.wide ≤ block_bytes ((line m.lines j).length * C.wide)
        fits j v = samples_fit C.wide (line m.lines j) (omega (arith, next_in i j v)) (omega arith) (i.tidy.short j v)

        inside : l.offset + l.length * C.wide ≤ length m.memory
        inside =
            let st = i.alive in
            omega (arith, whole, line_room m.runs m.pages st.state.out st.state.differ st.inside st.apart C.wide l (omega (arith, next_in i k u)) (omega arith) (i.tidy.short k u) (i.tidy.lent k u))

        disjoint : (j : ℕ) → (j ≡ k → ⊥) → InUse (line m.lines j) → Disjoint C.wide (line m.lines j) l
        disjoint j ne v = ⊎_elim (λ z. inl (omega (arith, z, fits j v))) (λ z. inr (omega (arith, z, fits k u))) (blocks_apart i j k ne v u)

        mine : (e : Entry X) → Agrees C m.memory l e → Agrees C after (fed l) (more x e)
        mine idle a = absurd (omega (arith, a, u))
        mine (active p len g o z) a = (a.0, a.1, a.2, a.3, feed_holds C.coded C.wide long m.memory l g x (next_in i k u) inside a.4)

        theirs : (j : ℕ) → (j ≡ k → ⊥) → (e : Entry X) → Agrees C m.memory (line m.lines j) e → Agrees C after (line m.lines j) e
        theirs j ne idle a = a
        theirs j ne (active p len g o z) a =
            let v = phase_used p a.0 in
            (a.0, a.1, a.2, a.3, other_holds C.coded C.wide long m.memory (line m.lines j) l g x (next_in i j v) (next_in i k u) inside (disjoint j ne v) a.4)

    -- a call that is acknowledged: granted, or else nothing changes
    tied_acknowledged : (n : Model) (c : Call X) (a : Reply X) (r : Result (Unit {0}) RackFault) (D : Type 0) → MatchResult r (λ _. D) (λ _. n ≡ m) → a ≡ acknowledged r
        → ((f : RackFault) → note C b c (Err f) ≡ b) → ((u : Unit {0}) → r ≡ Ok u → D → Tied C (note C b c (Ok Done)) n) → Tied C (note C b c a) n
    tied_acknowledged n c a (Ok u) D d e same granted = subst (λ (x : Reply X). Tied C (note C b c x) n) (sym e) (granted u refl d)
    tied_acknowledged n c a (Err f) D d e same granted = subst (λ (x : Reply X). Tied C (note C b c x) n) (sym e) (subst (λ (x : Book X). Tied C x n) (sym (same f)) (tied_same i n d))

    -- one call
    tied_step : (R : Rule) (n : Model) (c : Call X) (a : Reply X) → Step R C m c a n → Tied C (note C b c a) n
    tied_step R n (Open k len) a s = subst (λ (x : Reply X). Tied C (note C b (Open k len) x) n) (sym s.2) (tied_open i R n k len s.0 s.1)
    tied_step R n (Feed k x) a s = tied_acknowledged n (Feed k x) a s.0 _ s.1.1 s.2 (λ f. refl) (λ u e t. let f = write_ok verb.Feed m k u (sym e ∙ s.1.0) in tied_written n k x f.0 f.1 f.2 t)
    tied_step R n (Tick k) a s = tied_acknowledged n (Tick k) a s.0 _ s.1.1 s.2 (λ f. refl) (λ u e t. let f = write_ok verb.Tick m k u (sym e ∙ s.1.0) in tied_written n k C.silent f.0 f.1 f.2 t)
    tied_step R n (Tap k d) a s = tied_same i n s.1
    tied_step R n (Ring k) a s = tied_acknowledged n (Ring k) a s.0 _ s.1.1 s.2 (λ f. refl) (λ u e t. tied_ring i n k u (sym e ∙ s.1.0, t))
    tied_step R n (Close k) a s = tied_acknowledged n (Close k) a s.0 _ s.1.1 s.2 (λ f. refl) (λ u e t. tied_close i R n k u (sym e ∙ s.1.0, t))

  -- any run
  tied_run : (R : Rule) (b : Book X) (m n : Model) (log : List (Deed X)) → Tied C b m → Ran R C m log n → Tied C (noted C b log) n
  tied_run R b m n [] i r = tied_same i n r
  tied_run R b m n (d ∷ log) i r = tied_run R (note C b d.0 d.1) r.0 n log (tied_step i R r.0 d.0 d.1 r.1) r.2

  -- any run from a new rack
  tied_from : (R : Rule) (span : ℕ) (memory : List ℕ) (log : List (Deed X)) (m : Model) → Ran R C (fresh_model span memory) log m → Tied C (book C log) m
  tied_from R span memory log m ran = tied_run R empty (fresh_model span memory) m log (tied_new C span memory) ran

  -- after any run each line is in the state that the book says
  pub every_state : (R : Rule) (span : ℕ) (memory : List ℕ) (log : List (Deed X)) (m : Model) → Ran R C (fresh_model span memory) log m → (k : ℕ) → (line m.lines k).state ≡ book_state (book C log k)
  every_state R span memory log m ran = agrees (tied_from R span memory log m ran)

-- what needs that a sample that is coded reads as itself
module _ {X : Type 0} {C : Coding X} (inverse : (x : X) → C.heard (C.coded x) ≡ x) {b : Book X} {m : Model} (i : Tied C b m) where
  -- a granted tap
  tells : (k d : ℕ) (x : X) → Ok (Heard x) ≡ heard (tap_answer C m k d) → Tells C.silent (b k) d x
  tells k d x s = go (tap_answer C m k d) refl s
    where
      said : (e : Entry X) → Agrees C m.memory (line m.lines k) e → InUse (line m.lines k) → d < (line m.lines k).length → x ≡ tapped C.heard C.silent C.wide m.memory (line m.lines k) d → Tells C.silent e d x
      said idle a u near t = omega (arith, a, u)
      said (active p len h o z) a u near t = (
        omega (arith, near, a.1),
        recalled C.silent h d x (t ∙ tap_holds C.coded C.heard C.silent C.wide inverse m.memory (line m.lines k) h d near a.4),
      )

      go : (r : Result X RackFault) → r ≡ tap_answer C m k d → ◌≡◌ {A = Reply X} (Ok (Heard x)) (heard r) → Tells C.silent (b k) d x
      go (Ok y) t e =
          let f = tap_ok C m k d y t in
          let same : x ≡ y = cc in
          said (b k) (i.agree k) f.0 f.1 (same ∙ f.2)
      go (Err f) t e = not_ok f (Heard x) (sym e)

-- what needs the bounds of the counts that fit
module _ {X : Type 0} {R : Rule} {C : Coding X} (bounds : (t : List ℕ) (c : ℕ) → R.fits t c → (0 < c) × (c ≤ R.largest)) (wide : 1 ≤ C.wide) {b : Book X} {j : Model} (i : Tied C b j) where
  -- after a granted close, the line with the length that it had
  reopened : (m n : Model) (k len o z : ℕ) (p : Phase) (h : List X) (a : Reply X) → b k ≡ active p len h o z → Step R C j (Close k) (Ok Done) m → Step R C m (Open k len) a n → (offset : ℕ) × (a ≡ Ok (Opened offset))
  reopened m n k len o z p h a e s t = go s.0 s.1 s.2
    where
      agreed : Agrees C j.memory (line j.lines k) (active p len h o z)
      agreed = subst (λ (x : Entry X). Agrees C j.memory (line j.lines k) x) e (i.agree k)

      granted : (x : Result Block PoolFault) → is_ok x ≡ true → a ≡ opened (open_answer k x) → (offset : ℕ) × (a ≡ Ok (Opened offset))
      granted (Ok d) ok z = (d.offset, z)
      granted (Err f) ok z = absurd (false≢true ok)

      go : (r : Result (Unit {0}) RackFault) → Closes R j k r m → ◌≡◌ {A = Reply X} (Ok Done) (acknowledged r) → (offset : ℕ) × (a ≡ Ok (Opened offset))
      go (Err f) c q = not_ok f Done (sym q)
      go (Ok u) c q =
          let w = C.wide in
          let l = line j.lines k in
          let f = done_turns verb.Close j.lines k u c.0 in
          let low = below i k f.0 in
          let st = i.alive in
          let d = c.1 in
          let r = d.released in
          let some : 0 < len = omega (arith, next_in i k f.1, agreed.1) in
          let few : len * w ≤ 130560 = subst (λ (x : ℕ). x * w ≤ 130560) agreed.1 (i.tidy.short k f.1) in
          let bytes : 0 < len * w = omega (arith, row 0 len w some) in
          let y = i.tidy.lent k f.1 in
          let same : y.0 ≡ r.spot = r.only y.0 y.1 (ap (λ (x : Block). x.offset) y.2) in
          let size : block_size r.spot.run.shape ≡ block_bytes (len * w) =
          ap (λ (x : Spot). block_size x.run.shape) (sym same) ∙ ap (λ (x : Block). x.size) y.2 ∙ ap (λ (x : ℕ). block_bytes (x * w)) agreed.1 in
          let asked = shape_of_size (len * w) r.spot.run.shape bytes few size in
          let none : line m.lines k ≡ unused = ap (λ (x : List Line). line x k) d.lines ∙ get_or-set_same j.lines k unused unused low in
          let v = subst (λ (x : Result State RackFault). OpensAs R w m k len x t.0 n) (checks_pass w m k len f.0 some few none) t.1 in
          let used = st.state.used (r.spot.index, r.spot.run, r.on_loan.0) in
          let ok = granted_again R R (same_rule R) bounds (len * w) j.runs m.runs n.runs j.pages m.pages n.pages r.spot r.on_loan asked r.restored used v.0 v.1
          (taken_reuses R (len * w) m.runs n.runs m.pages n.pages v.0 v.1) in
          granted v.0 ok (t.2 ∙ ap opened v.2)

-- what needs all that a supply and a kind promise
module _ {X : Type 0} {R : Rule} {C : Coding X} (promises : Promises R C) where
  pub every_run : (span : ℕ) (memory : List ℕ) (log : List (Deed X)) (m : Model) → Ran R C (fresh_model span memory) log m → Law R C log m
  every_run span memory log m ran =
      record {
        apart = apart i;
        housed = housed i;
        filled = filled i;
        taps = λ k d x n s. tells promises.inverse i k d x s.0;
        keeps = keeps i;
        reopens = λ before k len o z p h a n e f t.
            let r = ran_split C R (fresh_model span memory) m before (Close k, Ok Done) (subst (λ (l : List (Deed X)). Ran R C (fresh_model span memory) l m) e ran) in
            reopened promises.bounds promises.wide (tied_from C promises.long promises.wide R span memory before r.0 r.1) m n k len o z p h a f r.2 t;
      }
    where
      i : Tied C (book C log) m
      i = tied_from C promises.long promises.wide R span memory log m ran

  -- one call more
  pub keeps_law : (m n : Model) (c : Call X) (a : Reply X) → Step R C m c a n → KeepsLaw R C m c a n
  keeps_law m n c a s span memory log r = every_run span memory (log ++ (c, a) ∷ []) n (ran_more C R (fresh_model span memory) m n log c a r s)
