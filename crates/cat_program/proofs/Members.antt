-- What each member of a checked program's lists keeps.
use Rattle.std.proofs.Common.{◌≡◌, ℕ, zero, suc, ◌<◌, List, [], ◌∷◌, length, refl, sym, ap, get_or, subst, arith}
use Rattle.std.specs.Prelude.{◌≤◌, slice_get, slice_index, unwrap_or, map}
use Rattle.cat_program.specs.declared.headers.Event.{Event}
use Rattle.cat_program.specs.Declares.{EachEventIs}
use Rattle.cat_program.specs.Body.{Body, tree_of}
use Rattle.cat_program.specs.Checked.{Checked, IsChecked, HasVersion, EachBelow, EachListBelow, VersionWorks, EachVersionWorks, EachEventWorks, most_steps}

pub below_at : (n : ℕ) (bs : List ℕ) (k : ℕ) → EachBelow n bs → k < length bs → slice_index bs k < n
below_at n [] k each h = absurd (omega arith)
below_at n (b ∷ bs) zero each h = each.0
below_at n (b ∷ bs) (suc k) each h = below_at n bs k each.1 (omega arith)

pub version_below : (n : ℕ) (lists : List (List ℕ)) (e v : ℕ) (x : List ℕ) → EachListBelow n lists → x ≡ get_or lists e x → e < length lists → v < length (unwrap_or (slice_get lists e) []) → slice_index x v < n
version_below n [] e v x each is h within = absurd (omega arith)
version_below n (bs ∷ lists) zero v x each is h within = subst (λ l. slice_index l v < n) (sym is) (below_at n bs v each.0 within)
version_below n (bs ∷ lists) (suc e) v x each is h within = version_below n lists e v x each.1 is (omega arith) within

pub headers_length : (headers : List Event) (events : List (List ℕ)) → EachEventIs headers events → length headers ≡ length events
headers_length [] [] each = refl
headers_length (h ∷ hs) (e ∷ es) each = ap suc (headers_length hs es each.1)
headers_length [] (e ∷ es) each = absurd each
headers_length (h ∷ hs) [] each = absurd each

pub version_works : (g : ℕ → Body) (w t : ℕ) (events : List (List ℕ)) (e v : ℕ) → EachEventWorks w t (map (λ event. map g event) events) → e < length events → v < length (unwrap_or (slice_get events e) []) → VersionWorks w t (g (slice_index (unwrap_or (slice_get events e) []) v))
version_works g w t [] e v each h k = absurd (omega arith)
version_works g w t (vs ∷ events) zero v each h k = by_version vs v each.0 k
  where
    by_version : (vs : List ℕ) (v : ℕ) → EachVersionWorks w t (map g vs) → v < length vs → VersionWorks w t (g (slice_index vs v))
    by_version [] v each k = absurd (omega arith)
    by_version (b ∷ vs) zero each k = each.0
    by_version (b ∷ vs) (suc v) each k = by_version vs v each.1 (omega arith)
version_works g w t (vs ∷ events) (suc e) v each h k = version_works g w t events e v each.1 (omega arith) k

-- a version's block is short
pub version_short : (p : Checked) (e v b : ℕ) → IsChecked p → HasVersion p e v → b ≡ slice_index (unwrap_or (slice_get p.events e) []) v → most_steps (tree_of p.blocks b) ≤ 1000000
version_short p e v b checked there is =
    let works = version_works (tree_of p.blocks) (length p.words) (length p.tasks) p.events e v checked.events_work there.0 there.1 in
    omega (arith, works.short, ap (λ k. most_steps (tree_of p.blocks k)) is)
