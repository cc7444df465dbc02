-- Two listings, worked out.
use Rattle.std.proofs.Common.{◌≡◌, [], ◌∷◌, refl, pos, negsuc}
use Rattle.std.specs.Prelude.{codes}
use Rattle.std.specs.Fmt.{digits}
use Rattle.cat_program.specs.declared.syntax.Operator.TheVariants as op
use Rattle.cat_program.specs.declared.syntax.Sign.TheVariants.{Not}
use Rattle.cat_program.specs.declared.headers.Timing.TheVariants.{Spacing}
use Rattle.cat_program.specs.declared.headers.Event.{Event}
use Rattle.cat_program.specs.Checked.{Checked}
use Rattle.cat_machine.specs.declared.instr.Instr.TheVariants as i
use Rattle.cat_machine.specs.CodeValue.{CodeValue}
use Rattle.cat_compile.specs.Listing.{listing_text}

-- task t { x = x + 1; out 1, x; }
abbrev counting : Checked
counting = record {
  variables = [];
  words = pos 0 ∷ [];
  names = codes "t" ∷ [];
  started = 1 ∷ [];
  tasks = 0 ∷ [];
  headers = [];
  events = [];
  mentions = [];
  blocks = [];
}

abbrev counting_code : CodeValue
counting_code = record {
  instrs =
      i.Begin 0 ∷ i.Load 0 ∷ i.Push (pos 1) ∷ i.Operate op.Add ∷ i.Store 0
      ∷ i.Load 0 ∷ i.Out 1 ∷ i.End ∷ [];
  tasks = 0 ∷ [];
  versions = [];
}

counting_listed : listing_text counting counting_code ≡ codes "task t 0\n0 begin 0\n1 load 0\n2 push 1\n3 add\n4 store 0\n5 load 0\n6 out 1\n7 end\n"
unfolding digits
counting_listed = refl

-- event ab { post u; } else { }
abbrev tap : Event
tap = record { name = codes "ab"; timing = Spacing 100; deadline = 50; versions = 2 }

-- task t { } task u { a[-3] = payload; if !x { } } and the event
abbrev mixed : Checked
mixed = record {
  variables = [];
  words = pos 0 ∷ [];
  names = codes "t" ∷ codes "u" ∷ [];
  started = 1 ∷ 0 ∷ [];
  tasks = 0 ∷ 0 ∷ [];
  headers = tap ∷ [];
  events = (0 ∷ 0 ∷ []) ∷ [];
  mentions = [];
  blocks = [];
}

abbrev mixed_code : CodeValue
mixed_code = record {
  instrs =
      i.Begin 0 ∷ i.End
      ∷ i.Begin 1 ∷ i.Push (negsuc 2) ∷ i.Payload ∷ i.StoreAt 1 8 ∷ i.Load 0 ∷ i.Signed Not ∷ i.JumpZero 9 ∷ i.End
      ∷ i.Post 1 ∷ i.End
      ∷ i.End ∷ [];
  tasks = 0 ∷ 2 ∷ [];
  versions = (10 ∷ 12 ∷ []) ∷ [];
}

mixed_listed : listing_text mixed mixed_code ≡ codes "task t 0\n0 begin 0\n1 end\ntask u 2\n2 begin 1\n3 push -3\n4 payload\n5 storeat 1 8\n6 load 0\n7 not\n8 jumpzero 9\n9 end\nevent ab 0 10\n10 post 1\n11 end\nevent ab 1 12\n12 end\n"
unfolding digits
mixed_listed = refl
