-- From a form's files to the looks of the form.
use Rattle.std.proofs.Common.{◌≡◌, ℕ, ◌<◌, List, [], length, map, Result, sym, ap, ◌∙◌, subst, Vec}
use Rattle.std.specs.Prelude.{get_or}
use Rattle.std.specs.declared.alloc.Global.{Global}
use Rattle.std.proofs.lemmas.List.{get_or-map}
use Rattle.catnap_words.specs.declared.form.Form.{Form}
use Rattle.catnap_top.specs.declared.reply.Reply.{Reply}
use Rattle.catnap_top.specs.declared.stop.Stop.{Stop}
use Rattle.catnap_top.specs.Look.{LooksAs}
use Rattle.catnap_top.specs.Reply.{looks_of, reply_answer}

abbrev pub contents : List (Vec ℕ Global) → List (List ℕ)
contents files = map (λ file. file.items) files

pub file_at : (files : List (Vec ℕ Global)) (place : ℕ) (file : Vec ℕ Global) (bytes : List ℕ) → place < length files → bytes ≡ file.items → file ≡ get_or files place file
    → bytes ≡ get_or (contents files) place []
file_at files place file bytes lt e f = e ∙ ap (λ (v : Vec ℕ Global). v.items) f ∙ sym (get_or-map (λ (v : Vec ℕ Global). v.items) files place file [] lt)

pub looks_as_form : (form same : Form) (files : List (List ℕ)) (result : Result Reply Stop) → form ≡ same → LooksAs reply_answer (looks_of same files) result
    → LooksAs reply_answer (looks_of form files) result
looks_as_form form same files result e h = subst (λ f. LooksAs reply_answer (looks_of f files) result) (sym e) h
