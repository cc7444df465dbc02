use Rattle.std.proofs.Common.{◌≡◌, ap, ◌∙◌, length, arith}
use Rattle.std.specs.Prelude.{replicate}
use Rattle.cat_resolve.specs.Meanings.{meanings}
use Rattle.cat_resolve.specs.Form.{commands}
use Rattle.cat_resolve.specs.Content.{started_from}
use Rattle.cat_resolve.proofs.Together.{fits_as, program_is}
use Rattle.cat_resolve.proofs.program.resolve.Goals as goal

pub build_all-requires : goal.build_all-requires
build_all-requires c = fits_as c.args.tree.now.items c.as_slice-items.result.now (meanings c.in_ok-declared.declared.names) c.as_slice-items.ensures c.in_ok-declared.ensures.names c.requires.few_blocks

pub returns : goal.returns
returns c =
    let items = c.as_slice-items.result.now in
    let names = meanings c.in_ok-declared.declared.names in
    let tasks : c.len.result ≡ length c.of-3.result = omega (arith, c.len.ensures, ap length c.of-3.ensures) in
    program_is c.args.tree.now items names _ c.as_slice-items.ensures c.in_ok-declared.ensures.names
    (c.of.ensures ∙ c.in_ok-declared.ensures.variables)
    (c.of-2.ensures ∙ c.in_ok-declared.ensures.words)
    (c.of-3.ensures ∙ c.in_ok-declared.ensures.tasks)
    (c.of-6.ensures ∙ c.in_ok-declared.ensures.events)
    (c.of-4.ensures ∙ c.in_ok-bodies.ensures.started ∙ ap (λ k. started_from names items (replicate k 0)) tasks)
    (c.of-5.ensures ∙ c.in_ok-bodies.ensures.tasks)
    (c.of-7.ensures ∙ c.in_ok-bodies.ensures.events)
    (c.of-8.ensures ∙ c.in_ok-bodies.ensures.mentions)
    (ap commands c.of-9.ensures ∙ c.in_ok-bodies.ensures.blocks)
