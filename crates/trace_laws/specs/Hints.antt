-- What the text of a reply shows of where it was made, and the reply that is made again there.
use Rattle.std.specs.Prelude.{List}
use Rattle.record_model.specs.Rules.{Rules}
use Rattle.lake_model.specs.Journal.{Entry}
use Rattle.script_model.specs.Commands.{Command}
use Rattle.record_model.specs.Replies.{Reply, NoMemory}
use Rattle.record_model.specs.Answered.{Standing, standing}
use Rattle.record_model.specs.Right.{answer_by}

-- memory ran out, or the reply was made at these positions
pub data Hint : Type 0 where
  Wanting : Hint
  Stands : (standing : Standing) → Hint

-- all that the checker has to know of a reply before making it again
abbrev pub hint_of : Reply → Hint
hint_of NoMemory = Wanting
hint_of reply = Stands (standing reply)

abbrev pub reply_by : Rules → List Entry → Command → Hint → Reply
reply_by rules journal command Wanting = NoMemory
reply_by rules journal command (Stands s) = answer_by rules journal command s
