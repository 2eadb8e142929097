-- A value that is lent out of its turn.
use Rattle.std.specs.Borrow.{Lends, MutBor, Fml}
use denote.RattleType.{RattleType}
use Rattle.turn_lock.specs.declared.turn.Turn.{Turn}
use Rattle.turn_lock.specs.contracts.turn.Turn.{the_row}

abbrev pub turn_of : {V : Type 0} → V → Turn V
turn_of value = record { value = value }

-- the turn ends with the last value written through the reference
abbrev pub LendsValue : (R : RattleType) → MutBor (Turn R.Denot) → MutBor R.Denot → Fml
LendsValue R turn lent = Lends (the_row R) R turn lent turn_of
