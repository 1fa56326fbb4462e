-- What ties the book to a rack, its pool and its memory, and what holds of a rack that is tied so.
use Rattle.std.proofs.Common.{◌≡◌, ℕ, ◌+◌, ◌*◌, ◌<◌, ◌≤◌, min, ◌⊎◌, List, get_or, set, length, Ok, sym, refl, ap, ◌∙◌, subst, inl, inr, ⊎_elim, eqb, arith}
use Rattle.std.proofs.lemmas.List.{get_or-set_same, get_or-set_other}
use Rattle.std.proofs.lemmas.Bool.{cases_eq, eq-eqb, ne_eqb, cond-true, cond-false}
use Rattle.classes.specs.Blocks.{block_bytes}
use Rattle.pages.specs.Table.{Out}
use Rattle.runs.specs.declared.table.Spot.{Spot}
use Rattle.runs.specs.Shapes.{block_size}
use Rattle.pool.specs.declared.block.Block.{Block}
use Rattle.pool.specs.Blocks.{start_of, block_of, OnLoan, BlockOnLoan, BlocksStand}
use Rattle.pool.proofs.Sound.{blocks_stand_lem}
use Rattle.pool.proofs.Lifetime.{Alive, alive_new}
use Rattle.rack.specs.declared.line.Line.{Line}
use Rattle.rack.specs.declared.state.State.{State}
use Rattle.rack.specs.declared.state.State.TheVariants.{Unused, Playing, Ringing}
use Rattle.rack.specs.Lines.{unused, line, used, InUse}
use Rattle.rack.specs.Holds.{block_at}
use Rattle.rack.specs.Model.{Model, fresh_model, Coding, kept_answer}
use Rattle.rack.proofs.Keeping.{Tidy, all_unused, tidy_new}
use Rattle.trace.specs.Book.{Phase, playing, ringing, Entry, idle, active, Book, empty, write}
use Rattle.trace.specs.Law.{state_of, book_state, Active, InBlock, InRun, Keeps}
use Rattle.trace.proofs.Memories.{Holds}
use Rattle.trace.proofs.Verdicts.{kept_ok}
use Rattle.trace.proofs.Loans.{loan_exists, Owned, owned_new}

-- the line's record, and what the memory has of it, are what the book says
abbrev pub Agrees : {X : Type 0} → Coding X → (memory : List ℕ) → Line → Entry X → Type 0
Agrees C memory l idle = used l.state ≡ 0
Agrees C memory l (active p len h o s) = (l.state ≡ state_of p) × (l.length ≡ len) × (l.offset ≡ o) × (s ≡ block_bytes (len * C.wide)) × Holds C.coded C.wide memory l h

-- what ties the book to the rack, its pool and its memory
pub record Tied {X : Type 0} (C : Coding X) (b : Book X) (m : Model) : Type 0 where
  pub alive : Alive m.runs m.pages
  pub tidy : Tidy (BlockOnLoan m.runs) C.wide m.lines
  pub owned : Owned (BlockOnLoan m.runs) C.wide m.lines
  pub agree : (k : ℕ) → Agrees C m.memory (line m.lines k) (b k)

-- a line in a phase is in use
pub phase_used : {s : State} (p : Phase) → s ≡ state_of p → used s ≡ 1
phase_used playing e = ap used e
phase_used ringing e = ap used e

module _ {X : Type 0} (C : Coding X) where
  -- the bytes of a line's block, by the line's length
  size_of : {n len s : ℕ} → n ≡ len → s ≡ block_bytes (len * C.wide) → s ≡ block_bytes (n * C.wide)
  size_of e f = f ∙ ap (λ (x : ℕ). block_bytes (x * C.wide)) (sym e)

  write_cases : (b : Book X) (k : ℕ) (e : Entry X) (j : ℕ) → ((j ≡ k) × (write b k e j ≡ e)) ⊎ ((j ≡ k → ⊥) × (write b k e j ≡ b j))
  write_cases b k e j = ⊎_elim (λ h. inl (h, cond-true (eqb j k) e (b j) (eq-eqb j k h))) (λ h. inr (h, cond-false (eqb j k) e (b j) (ne_eqb j k h))) (cases_eq j k)

  -- a write to the records, beside a write to the book
  pub agree_write : (memory : List ℕ) (ls : List Line) (n : ℕ) (l : Line) (b : Book X) (e : Entry X) → n < length ls → Agrees C memory l e → ((k : ℕ) → (k ≡ n → ⊥) → Agrees C memory (line ls k) (b k))
      → (k : ℕ) → Agrees C memory (line (set ls n l) k) (write b n e k)
  agree_write memory ls n l b e h mine theirs k =
      ⊎_elim
      (λ y.
      let r : line (set ls n l) k ≡ l = ap (λ (j : ℕ). line (set ls n l) j) y.0 ∙ get_or-set_same ls n l unused h in
      subst (λ (x : Line). Agrees C memory x (write b n e k)) (sym r) (subst (λ (x : Entry X). Agrees C memory l x) (sym y.1) mine))
      (λ y.
      let r : line (set ls n l) k ≡ line ls k = get_or-set_other ls n k l unused y.0 in
      subst (λ (x : Line). Agrees C memory x (write b n e k)) (sym r) (subst (λ (x : Entry X). Agrees C memory (line ls k) x) (sym y.1) (theirs k y.0)))
      (write_cases b n e k)

  pub agree_to : (ls after : List Line) (memory rest : List ℕ) (b : Book X) → after ≡ ls → rest ≡ memory → ((k : ℕ) → Agrees C memory (line ls k) (b k)) → (k : ℕ) → Agrees C rest (line after k) (b k)
  agree_to ls after memory rest b e f a k = subst (λ (x : List Line). Agrees C rest (line x k) (b k)) (sym e) (subst (λ (x : List ℕ). Agrees C x (line ls k) (b k)) (sym f) (a k))

  pub tied_new : (span : ℕ) (memory : List ℕ) → Tied C empty (fresh_model span memory)
  tied_new span memory =
      record {
        alive = alive_new span;
        tidy = tidy_new (BlockOnLoan (fresh_model span memory).runs) C.wide;
        owned = owned_new C.wide (fresh_model span memory).lines;
        agree = λ k. ap (λ (x : Line). used x.state) (all_unused 64 k);
      }

-- what holds of a rack whose book is tied to it
module _ {X : Type 0} {C : Coding X} {b : Book X} {m : Model} (i : Tied C b m) where
  pub tied_same : (n : Model) → n ≡ m → Tied C b n
  tied_same n e = subst (Tied C b) (sym e) i

  pub below : (k : ℕ) → k < 64 → k < length m.lines
  below k h = omega (arith, i.tidy.many)

  pub next_in : (k : ℕ) → InUse (line m.lines k) → (line m.lines k).next < (line m.lines k).length
  next_in k u = omega (arith, (i.tidy.placed k).0, u)

  stand : BlocksStand m.runs m.pages
  stand = let a = i.alive in blocks_stand_lem m.runs m.pages a.state.out a.state.differ a.inside a.apart

  -- the blocks of two lines in use share no byte
  pub blocks_apart : (j k : ℕ) → (j ≡ k → ⊥) → InUse (line m.lines j) → InUse (line m.lines k)
      → ((line m.lines j).offset + block_bytes ((line m.lines j).length * C.wide) ≤ (line m.lines k).offset) ⊎ ((line m.lines k).offset + block_bytes ((line m.lines k).length * C.wide) ≤ (line m.lines j).offset)
  blocks_apart j k ne u v =
      stand.apart (block_at C.wide (line m.lines j)) (block_at C.wide (line m.lines k)) (i.tidy.lent j u) (i.tidy.lent k v)
      (λ e. ne (i.tidy.differ j k (u, v, ap (λ (d : Block). d.offset) e)))

  -- the states are those of the book
  pub agrees : (k : ℕ) → (line m.lines k).state ≡ book_state (b k)
  agrees k = go (b k) (i.agree k)
    where
      idle_state : (s : State) → used s ≡ 0 → s ≡ Unused
      idle_state Unused e = refl
      idle_state Playing e = absurd (omega arith)
      idle_state Ringing e = absurd (omega arith)

      go : (e : Entry X) → Agrees C m.memory (line m.lines k) e → (line m.lines k).state ≡ book_state e
      go idle a = idle_state (line m.lines k).state a
      go (active p len h o z) a = a.0

  -- no byte in two blocks
  pub apart : (j k byte : ℕ) → InBlock (b j) byte → InBlock (b k) byte → j ≡ k
  apart j k byte x y = ⊎_elim (λ e. e) (λ ne. absurd (go ne (b j) (b k) (i.agree j) (i.agree k) x y)) (cases_eq j k)
    where
      go : (j ≡ k → ⊥) → (e f : Entry X) → Agrees C m.memory (line m.lines j) e → Agrees C m.memory (line m.lines k) f → InBlock e byte → InBlock f byte → ⊥
      go ne idle f a c p q = p
      go ne (active ph len h o s) idle a c p q = q
      go ne (active ph len h o s) (active ph' len' h' o' s') a c p q =
          let d = blocks_apart j k ne (phase_used ph a.0) (phase_used ph' c.0) in
          let e = size_of C a.1 a.3 in
          let f = size_of C c.1 c.3 in
          ⊎_elim (λ z. omega (arith, e, f, a.2, c.2, p.0, p.1, q.0, q.1, z)) (λ z. omega (arith, e, f, a.2, c.2, p.0, p.1, q.0, q.1, z)) d

  -- where a line's block lies, by its slot
  in_run : (k : ℕ) (p : Spot) → OnLoan m.runs p → InUse (line m.lines k) → block_at C.wide (line m.lines k) ≡ block_of p → InRun (b k) p.run.first p.run.shape.count
  in_run k p l u here = go (b k) (i.agree k)
    where
      go : (x : Entry X) → Agrees C m.memory (line m.lines k) x → InRun x p.run.first p.run.shape.count
      go idle a = absurd (omega (arith, a, u))
      go (active ph len h o s) a =
          let at : o ≡ start_of p = sym a.2 ∙ ap (λ (x : Block). x.offset) here in
          let size : s ≡ block_size p.run.shape = size_of C a.1 a.3 ∙ ap (λ (x : Block). x.size) here in
          (omega (arith, stand.after_start p l, at), omega (arith, stand.before_end p l, at, size))

  -- the block of a line in use lies in a run out
  pub housed : (k : ℕ) → Active (b k) → (first : ℕ) × (count : ℕ) × Out m.pages first count × InRun (b k) first count
  housed k x =
      let u = go (b k) (i.agree k) x in
      let y = i.tidy.lent k u in
      let p = y.0 in
      (p.run.first, p.run.shape.count, i.alive.state.out (p.index, p.run, y.1.0), in_run k p y.1 u (sym y.2))
    where
      go : (e : Entry X) → Agrees C m.memory (line m.lines k) e → Active e → InUse (line m.lines k)
      go idle a x = absurd x
      go (active ph len h o s) a x = phase_used ph a.0

  -- a run out holds the block of a line in use
  pub filled : (first count : ℕ) → Out m.pages first count → (k : ℕ) × InRun (b k) first count
  filled first count out =
      let st = i.alive in
      let x = st.all first (omega (arith, out.0, out.1)) in
      let e = x.0 in
      let r = e.1 in
      let s = loan_exists r (st.state.used e) in
      let p : Spot = record { index = e.0; run = r; slot = s.0 } in
      let l : OnLoan m.runs p = (e.2, s.1) in
      let y = i.owned (block_of p) (p, l, refl) in
      let same : r.shape.count ≡ count = sym (st.state.out e).1 ∙ ap (λ (n : ℕ). get_or m.pages n 0) x.1 ∙ out.1 in
      (y.0, subst (λ (n : ℕ). InRun (b y.0) first n) same (subst (λ (n : ℕ). InRun (b y.0) n r.shape.count) x.1 (in_run y.0 p l y.1 y.2)))

  -- what a line keeps
  pub keeps : (k n : ℕ) → kept_answer m.lines k ≡ Ok n → Keeps (b k) n
  keeps k n e = let f = kept_ok m.lines k n e in go (b k) (i.agree k) f.0 f.1
    where
      go : (x : Entry X) → Agrees C m.memory (line m.lines k) x → InUse (line m.lines k) → n ≡ (line m.lines k).kept → Keeps x n
      go idle a u same = omega (arith, a, u)
      go (active ph len h o s) a u same = same ∙ a.4.0 ∙ ap (λ (x : ℕ). min (length h) x) a.1
