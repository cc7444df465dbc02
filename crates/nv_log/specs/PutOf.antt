use Rattle.nv_memory.specs.declared.board.Answer.{Answer}
use Rattle.nv_memory.specs.declared.board.Answer.TheVariants as answer
use Rattle.nv_log.specs.declared.log.Put.{Put}
use Rattle.nv_log.specs.declared.log.Put.TheVariants as put

-- the board's answer as that of an append
abbrev pub put_of_answer : Answer → Put
put_of_answer answer.Done = put.Done
put_of_answer answer.Lost = put.Lost
put_of_answer answer.Over = put.Over
