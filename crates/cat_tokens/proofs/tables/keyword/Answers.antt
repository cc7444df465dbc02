use Rattle.std.proofs.Common.{◌∙◌, refl, arith}
use Rattle.std.specs.Prelude.{nat_le, ◌&&◌}
use Rattle.std.proofs.lemmas.Bool.Decides.{nat_tests}
use Rattle.cat_tokens.specs.Spelling.{keyword_of, keywords}
use Rattle.cat_tokens.proofs.ByLength.{same_length, other_length}
use Rattle.cat_tokens.proofs.tables.keyword.Goals as goal

pub returns-in-2 : goal.returns-in-2
unfolding keyword_of
returns-in-2 c = c.keyword_in.ensures ∙ same_length keywords c.args.word.now 2 c.in-2.is

pub returns-in-3 : goal.returns-in-3
unfolding keyword_of
returns-in-3 c = c.keyword_in-in-3.ensures ∙ same_length keywords c.args.word.now 3 c.in-3.is

pub returns-in-4 : goal.returns-in-4
unfolding keyword_of
returns-in-4 c = c.keyword_in-in-4.ensures ∙ same_length keywords c.args.word.now 4 c.in-4.is

pub returns-in-5 : goal.returns-in-5
unfolding keyword_of
returns-in-5 c = c.keyword_in-in-5.ensures ∙ same_length keywords c.args.word.now 5 c.in-5.is

pub returns-in-6 : goal.returns-in-6
unfolding keyword_of
returns-in-6 c = c.keyword_in-in-6.ensures ∙ same_length keywords c.args.word.now 6 c.in-6.is

pub returns-in-7 : goal.returns-in-7
unfolding keyword_of
returns-in-7 c = c.keyword_in-in-7.ensures ∙ same_length keywords c.args.word.now 7 c.in-7.is

pub returns-in-8 : goal.returns-in-8
unfolding keyword_of
returns-in-8 c = c.keyword_in-in-8.ensures ∙ same_length keywords c.args.word.now 8 c.in-8.is

pub returns-in_default : goal.returns-in_default
unfolding keyword_of
returns-in_default c = other_length (λ n. nat_le 2 n && nat_le n 8) keywords c.args.word.now refl (grind (arith, nat_tests))
