use Rattle.std.proofs.Common.{◌≤◌, ◌∙◌, sym, ap, arith, subst, length, refl}
use Rattle.std.specs.Prelude.{None}
use Rattle.cat_tokens.specs.Lexemes.{lexemes}
use Rattle.cat_tokens.specs.Lexes.{Lexes}
use Rattle.cat_syntax.specs.Spells.{Spells, IsFault}
use Rattle.catnap_top.specs.Source.{stop_of, most_source, too_long}
use Rattle.catnap_top.specs.Files.{program_in}
use Rattle.catnap_top.specs.Look.{Stops, fits, fails}
use Rattle.catnap_top.specs.Places.{token_named, byte_of_token}
use Rattle.catnap_top.specs.Refusals.{kind_of_token_fault, kind_of_syntax_fault}
use Rattle.catnap_top.proofs.Refusing.{token_refused, syntax_refused}
use Rattle.catnap_top.proofs.source.program_of.Goals as goal

pub returns-then-source-gt-MOST_SOURCE : goal.returns-then-source-gt-MOST_SOURCE
returns-then-source-gt-MOST_SOURCE c = fails _ (too_long (omega arith) refl refl) refl

pub returns-in-Err : goal.returns-in-Err
returns-in-Err c =
    let le : length c.args.source.now ≤ most_source = omega arith in
    subst (Stops (program_in c.args.source.now))
    (sym (c.stop.ensures ∙ (ap (λ k. stop_of k c.byte_named.result) c.kind_of_token_fault.ensures ∙ ap (stop_of (kind_of_token_fault c.in-Err.fault)) c.byte_named.ensures)))
    (token_refused c.args.source.now c.in-Err.fault le c.in-Err.ensures.fault)

pub returns-in-Err-parse : goal.returns-in-Err-parse
returns-in-Err-parse c =
    let source = c.args.source.now in
    let fault = c.in-Err-parse.fault in
    let le : length source ≤ most_source = omega arith in
    subst (Stops (program_in source))
    (sym (c.stop-in-Err-parse.ensures
    ∙ (ap (λ k. stop_of k c.byte_of_token-place.result) c.kind_of_syntax_fault.ensures
    ∙ ap (stop_of (kind_of_syntax_fault fault))
    (c.byte_of_token-place.ensures
    ∙ (ap (byte_of_token source c.as_slice-in-Err-parse.result.now) c.token_named.ensures
    ∙ ap (λ ts. byte_of_token source ts (token_named fault)) c.as_slice-in-Err-parse.ensures.value)))))
    (syntax_refused source c.in-Ok.found.items fault le c.in-Ok.ensures.tokens
    (subst (λ ts. IsFault (lexemes source ts) fault) c.as_slice.ensures.value c.in-Err-parse.ensures.fault))

pub returns-in-Ok-check : goal.returns-in-Ok-check
returns-in-Ok-check c =
    fits c.in-Ok-check.program (record {
      within = omega arith;
      tokens = c.in-Ok.found.items;
      lexed = c.in-Ok.ensures.tokens;
      tree = c.in-Ok-parse.tree;
      spelled = subst (λ ts. Spells (lexemes c.args.source.now ts) c.in-Ok-parse.tree.items) c.as_slice.ensures.value c.in-Ok-parse.ensures.tree;
      checked = c.in-Ok-check.ensures.verdict;
      program = c.in-Ok-check.ensures.program;
    }) refl

pub unchecked-requires-clause-few : goal.unchecked-requires-clause-few
unchecked-requires-clause-few c = subst (λ ts. length ts ≤ length c.args.source.now) (sym c.as_slice-in-Err-check.ensures.value) c.in-Ok.ensures.few

pub unchecked-requires-clause-lexed : goal.unchecked-requires-clause-lexed
unchecked-requires-clause-lexed c = subst (λ ts. Lexes 0 c.args.source.now ts None) (sym c.as_slice-in-Err-check.ensures.value) c.in-Ok.ensures.tokens

pub unchecked-requires-clause-spelled : goal.unchecked-requires-clause-spelled
unchecked-requires-clause-spelled c =
    subst (λ ts. Spells (lexemes c.args.source.now ts) c.in-Ok-parse.tree.items) (c.as_slice.ensures.value ∙ sym c.as_slice-in-Err-check.ensures.value) c.in-Ok-parse.ensures.tree

pub unchecked-requires-clause-fault : goal.unchecked-requires-clause-fault
unchecked-requires-clause-fault c = c.in-Err-check.ensures.verdict
