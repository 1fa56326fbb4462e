-- What a line's record says, and what a feed and a tap do by it.
use Rattle.std.specs.Prelude.{◌≡◌, ℕ, ◌+◌, ◌-◌, ◌*◌, cond, List, ◌++◌, length, take, drop, ◌==◌, nat_lt, slice_index_or}
use Rattle.rack.specs.declared.line.Line.{Line}
use Rattle.rack.specs.declared.state.State.{State}
use Rattle.rack.specs.declared.state.State.TheVariants.{Unused, Playing, Ringing}

abbrev pub unused : Line
unused = record { state = Unused; offset = 0; length = 0; next = 0; kept = 0 }

-- the line with the number k
abbrev pub line : List Line → (k : ℕ) → Line
line ls k = slice_index_or ls k unused

-- 1 while a line is in use, else 0
abbrev pub used : State → ℕ
used Unused = 0
used Playing = 1
used Ringing = 1

-- the line is playing or ringing
abbrev pub InUse : Line → Type 0
InUse l = used l.state ≡ 1

-- a line that was just opened
abbrev pub fresh : (offset length : ℕ) → Line
fresh offset length = record { state = Playing; offset = offset; length = length; next = 0; kept = 0 }

-- the position after p, in a line of n: it wraps to 0
abbrev pub after : (n p : ℕ) → ℕ
after n p = cond (p + 1 == n) 0 (p + 1)

-- the position of the sample that was fed d feeds before the newest, in a line of n
abbrev pub back : (n next d : ℕ) → ℕ
back n next d = cond (nat_lt d next) (next - 1 - d) (next + n - 1 - d)

-- the record after a feed
abbrev pub fed : Line → Line
fed l = record { state = l.state; offset = l.offset; length = l.length; next = after l.length l.next; kept = cond (nat_lt l.kept l.length) (l.kept + 1) l.kept }

-- the record once the line is left to ring
abbrev pub rung : Line → Line
rung l = record { state = Ringing; offset = l.offset; length = l.length; next = l.next; kept = l.kept }

-- the byte at which the position p begins, with samples of w bytes
abbrev pub place : (w : ℕ) → Line → (p : ℕ) → ℕ
place w l p = l.offset + p * w

-- the memory m with the bytes bs from a on
abbrev pub patched : (m : List ℕ) (a : ℕ) (bs : List ℕ) → List ℕ
patched m a bs = take a m ++ (bs ++ drop (a + length bs) m)

-- the memory m with the sample x at the next position of a line
abbrev pub written : {X : Type 0} → (coded : X → List ℕ) (w : ℕ) (m : List ℕ) → Line → (x : X) → List ℕ
written coded w m l x = patched m (place w l l.next) (coded x)

-- the w bytes of the memory m from a on
abbrev pub piece : (m : List ℕ) (a w : ℕ) → List ℕ
piece m a w = take w (drop a m)

-- the sample that was fed d feeds before the newest, or silence where fewer were fed
abbrev pub tapped : {X : Type 0} → (heard : List ℕ → X) (silent : X) (w : ℕ) (m : List ℕ) → Line → (d : ℕ) → X
tapped heard silent w m l d = cond (nat_lt d l.kept) (heard (piece m (place w l (back l.length l.next d)) w)) silent
