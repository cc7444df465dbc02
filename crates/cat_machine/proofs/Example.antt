-- The code and the places of a small program, worked out.
use Rattle.std.proofs.Common.{◌≡◌, [], ◌∷◌, Some, None, refl, pos}
use Rattle.cat_program.specs.declared.syntax.Expr.{Number, Payload, Word}
use Rattle.cat_program.specs.declared.syntax.Stmt.TheVariants.{Set, Out, Post, If, While, Repeat}
use Rattle.cat_program.specs.Body.{tree_to, Body, Empty, Plain, Choice, Loop, SetWord, Emit, Raise}
use Rattle.cat_program.specs.Checked.{Checked, rest_at}
use Rattle.cat_machine.specs.declared.instr.Instr.TheVariants as i
use Rattle.cat_machine.specs.Code.{code_of}

-- task t { while x { x = 0; } if x { out 1, x; } else { post t; } }  event e { repeat 3 { out 2, payload; } }
abbrev small : Checked
small = record {
  variables = [];
  words = pos 0 ∷ [];
  names = (116 ∷ []) ∷ [];
  started = 1 ∷ [];
  tasks = 3 ∷ [];
  headers = [];
  events = (5 ∷ []) ∷ [];
  mentions = [];
  blocks =
      (Set 0 (Number (pos 0)) ∷ []) ∷
      (Out 1 (Word 0) ∷ []) ∷
      (Post 0 ∷ []) ∷
      (While (Word 0) 0 ∷ If (Word 0) 1 (Some 2) ∷ []) ∷
      (Out 2 Payload ∷ []) ∷
      (Repeat 3 4 ∷ []) ∷ [];
}

small_code : code_of small ≡ record {
  instrs =
      i.Begin 0 ∷ i.Load 0 ∷ i.JumpZero 6 ∷ i.Push (pos 0) ∷ i.Store 0 ∷ i.Jump 1
      ∷ i.Load 0 ∷ i.JumpZero 11 ∷ i.Load 0 ∷ i.Out 1 ∷ i.Jump 12 ∷ i.Post 0 ∷ i.End
      ∷ i.Push (pos 3) ∷ i.Turn 18 ∷ i.Payload ∷ i.Out 2 ∷ i.Jump 14 ∷ i.End ∷ [];
  tasks = 0 ∷ [];
  versions = (13 ∷ []) ∷ [];
}
unfolding code_of tree_to
small_code = refl

abbrev choice_after : Body
choice_after = Choice 3 1 (Word 0) (Plain 1 0 (Emit 1 (Word 0)) Empty) (Plain 2 0 (Raise 0) Empty) Empty

abbrev loop_and_after : Body
loop_and_after = Loop 3 0 (Word 0) (Plain 0 0 (SetWord 0 (Number (pos 0))) Empty) choice_after

small_rests : (rest_at small 0 ≡ None) × (rest_at small 1 ≡ Some loop_and_after) × (rest_at small 2 ≡ None) × (rest_at small 3 ≡ Some (Plain 0 0 (SetWord 0 (Number (pos 0))) loop_and_after)) × (rest_at small 5 ≡ Some loop_and_after) × (rest_at small 6 ≡ Some choice_after) × (rest_at small 10 ≡ Some Empty) × (rest_at small 12 ≡ Some Empty) × (rest_at small 13 ≡ None)
unfolding tree_to
small_rests = (refl, refl, refl, refl, refl, refl, refl, refl, refl)
