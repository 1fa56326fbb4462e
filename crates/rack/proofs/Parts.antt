-- What a rack's type knows, as the records of the lemmas.
use Rattle.std.proofs.Common.{◌≡◌, ℕ, ◌≤◌, length, sym, subst, arith}
use Rattle.pages.specs.Table.{Inside, Apart}
use Rattle.pages.specs.declared.supply.Supply.{Ghosts as SupplyGhosts}
use Rattle.samples.specs.declared.kind.Kind.{Ghosts as KindGhosts}
use Rattle.pool.specs.Blocks.{BlockOnLoan}
use Rattle.rack.specs.declared.rack.Rack.{Rack}
use Rattle.rack.specs.Views.{pages_of}
use Rattle.rack.proofs.Keeping.{Tidy}
use Rattle.rack.proofs.Rooms.{Housed}

module _ {S K X : Type 0} {supply : SupplyGhosts S} {kind : KindGhosts K X} (s : Rack S K X supply kind) where
  pub tidy_of : Tidy (λ b. ∥ BlockOnLoan s.inner.pool.runs.table b ∥₁) kind.wide s.inner.lines
  tidy_of = record { many = s.inner.many; placed = s.placed; short = s.short; lent = s.lent; differ = s.differ }

  pub housed : Inside (length (pages_of s)) (pages_of s) → Apart (pages_of s) → 1 ≤ kind.wide → (w : ℕ) → w ≡ kind.wide → Housed s.inner.pool.runs.table (pages_of s) s.inner.lines w
  housed inside apart least w e =
      record {
        out = s.inner.pool.out;
        differ = s.inner.pool.differ;
        inside = inside;
        apart = apart;
        wide = omega (arith, least);
        tidy = subst (λ (x : ℕ). Tidy (λ b. ∥ BlockOnLoan s.inner.pool.runs.table b ∥₁) x s.inner.lines) (sym e) tidy_of;
      }
