-- What a table says of a key, and what two tables say of it together.
use Rattle.std.specs.Prelude.{ℕ, ◌==◌, Bool, true, false, ◌&&◌, ◌||◌, nat_lt, leb, List, [], ◌∷◌}
use Rattle.std.specs.Prelude.{Option, Some, None, if◌then◌else◌}
use Rattle.brake_base.specs.declared.stroke.Key.{Key}
use Rattle.brake_base.specs.declared.stroke.Worth.{Worth}
use Rattle.brake_base.specs.declared.stroke.Worth.TheVariants.{Cost, Blocked}
use Rattle.brake_base.specs.declared.reason.Reason.{Reason}
use Rattle.brake_base.specs.Keys.{is_key}
use Rattle.brake_base.specs.Reasons.{reason_place}

-- the worth of a key's row, in tenths of a second, and the reasons that are noted there by the
-- numbers of their actions
pub record Settled : Type 0 where
  pub worth : Worth
  pub reasons : ℕ → Option Reason

-- what is said of a key, by rows of keys; the first row of the key counts
abbrev pub said_of : Key → List (Key × Settled) → Option Settled
said_of key [] = None
said_of key (row ∷ rows) = if is_key row.0 key then Some row.1 else said_of key rows

-- the first list has the lesser number at the first place where they differ
abbrev pub stands_before : List ℕ → List ℕ → Bool
stands_before [] ys = false
stands_before (x ∷ xs) [] = false
stands_before (x ∷ xs) (y ∷ ys) = nat_lt x y || (x == y && stands_before xs ys)

-- of two reasons the first in the order of reasons, or the one that there is
abbrev pub first_reason : Option Reason → Option Reason → Option Reason
first_reason None b = b
first_reason (Some a) None = Some a
first_reason (Some a) (Some b) = if stands_before (reason_place b) (reason_place a)
    then Some b
    else Some a

-- the first worth is at most the second
abbrev pub is_at_most : Worth → Worth → Bool
is_at_most a Blocked = true
is_at_most Blocked (Cost n) = false
is_at_most (Cost m) (Cost n) = leb m n

-- at equal worth the notes of both, and of two reasons for one action the first
abbrev pub united : Settled → Settled → Settled
united a b = record {
  worth = a.worth;
  reasons = λ action. first_reason (a.reasons action) (b.reasons action);
}

-- the greater worth with its notes
abbrev pub joined : Settled → Settled → Settled
joined a b = if is_at_most b.worth a.worth
    then (if is_at_most a.worth b.worth then united a b else a)
    else b

-- a key of one table keeps what is said of it; of a key of both they are joined
abbrev pub merged_at : Option Settled → Option Settled → Option Settled
merged_at None b = b
merged_at (Some a) None = Some a
merged_at (Some a) (Some b) = Some (joined a b)
