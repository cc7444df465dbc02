-- Lists of packets and records.
use Rattle.std.proofs.Common.{◌≡◌, ◌∙◌, ℕ, zero, suc, ◌+◌, ◌≤◌, ◌<◌, max, nat_le, nat_lt, Bool, List, [], ◌∷◌, ◌++◌, length, take, Some, true, false, refl, sym, ap, subst, arith, length-append}
use Rattle.std.specs.Prelude.{slice_get}
use Rattle.std.specs.List.{All, filter}
use Rattle.std.proofs.lemmas.Bool.Decides.{nat_tests}
use Rattle.std.proofs.lemmas.Grind.{common_steps}
use Rattle.std.proofs.lemmas.List.Elements.{All-get_or}
use Rattle.std.proofs.lemmas.List.Sums.{length-filter, count_by-le-length}
use Rattle.std.proofs.lemmas.Option.{get_or_from_slice_get, slice_get_within, none-some}
use Rattle.cat_program.specs.declared.outs.LogEntry.{LogEntry}
use Rattle.cn_uplink.specs.declared.packet.Packet.{Packet}
use Rattle.cn_uplink.specs.Faithful.{IsPrefix, IsRun}

pub All-at : {X : Type 0} (P : X → Type 0) (xs : List X) (k : ℕ) (x : X) → slice_get xs k ≡ Some x → All P xs → P x
All-at P xs k x e h = subst P (get_or_from_slice_get xs k x x e) (All-get_or P xs k x (slice_get_within xs k x e) h)

pub last-at : {X : Type 0} (xs : List X) (x : X) → slice_get (xs ++ x ∷ []) (length xs) ≡ Some x
last-at [] x = refl
last-at (y ∷ xs) x = last-at xs x

pub found : {X : Type 0} (xs : List X) (k : ℕ) → k < length xs → (x : X) × (slice_get xs k ≡ Some x)
found [] k lt = absurd (omega arith)
found (x ∷ xs) zero lt = (x, refl)
found (x ∷ xs) (suc k) lt = found xs k (omega arith)

-- ---- records

take-next : {X : Type 0} (k : ℕ) (log : List X) (x : X) → slice_get log k ≡ Some x → take (suc k) log ≡ take k log ++ x ∷ []
take-next k [] x e = absurd (none-some x e)
take-next zero (y ∷ log) x e = grind arith
take-next (suc k) (y ∷ log) x e = ap (λ t. y ∷ t) (take-next k log x e)

-- the next record of the log behind those that are held
pub IsPrefix-push : (held log : List LogEntry) (entry : LogEntry) → IsPrefix held log → slice_get log (length held) ≡ Some entry → IsPrefix (held ++ entry ∷ []) log
IsPrefix-push held log entry h e =
    let long : length (held ++ entry ∷ []) ≡ suc (length held) = omega (arith, length-append held (entry ∷ [])) in
    ap (λ t. t ++ entry ∷ []) h ∙ sym (take-next (length held) log entry e) ∙ ap (λ n. take n log) (sym long)

pub IsPrefix-length : (held log : List LogEntry) → IsPrefix held log → length held ≤ length log
IsPrefix-length held log h = grind (arith, common_steps, ap length h)

-- ---- packets

pub IsRun-push : (base next : ℕ) (window : List Packet) (p : Packet) → IsRun base next window → p.place ≡ next → IsRun base (next + 1) (window ++ p ∷ [])
IsRun-push base next [] p h e = (e ∙ sym h, ap (λ n. n + 1) h)
IsRun-push base next (q ∷ window) p h e = (h.0, IsRun-push (base + 1) next window p h.1 e)

pub IsRun-le : (base next : ℕ) (window : List Packet) → IsRun base next window → base ≤ next
IsRun-le base next [] h = omega arith
IsRun-le base next (q ∷ window) h = let more : base + 1 ≤ next = IsRun-le (base + 1) next window h.1 in omega arith

-- where no packet is below a, all stay
pub filter-all : (a base next : ℕ) (window : List Packet) → IsRun base next window → a ≤ base → filter (λ p. nat_le a p.place) window ≡ window
filter-all a base next [] h le = refl
filter-all a base next (q ∷ window) h le =
    let stays : nat_le a q.place ≡ true = grind (arith, nat_tests, h.0) in
    rw stays (ap (λ t. q ∷ t) (filter-all a (base + 1) next window h.1 (omega arith)))

-- a packet below a leaves
pub filter-drops : (a : ℕ) (q : Packet) (window : List Packet) → q.place < a → filter (λ p. nat_le a p.place) (q ∷ window) ≡ filter (λ p. nat_le a p.place) window
filter-drops a q window lt =
    let goes : nat_le a q.place ≡ false = grind (arith, nat_tests) in
    rw goes refl

-- a run from behind a packet that left
IsRun-behind : (a base next : ℕ) (window : List Packet) (more : Bool) → nat_lt (base + 1) a ≡ more → IsRun (base + 1) next window → base < a
    → (base + 1 < a → IsRun a (max next a) (filter (λ p. nat_le a p.place) window)) → IsRun a (max next a) (filter (λ p. nat_le a p.place) window)
IsRun-behind a base next window true e h lt rest = rest (grind (arith, nat_tests))
IsRun-behind a base next window false e h lt rest =
    let same : base + 1 ≡ a = grind (arith, nat_tests) in
    let le : base + 1 ≤ next = IsRun-le (base + 1) next window h in
    let top : next ≡ max next a = omega arith in
    subst (IsRun a (max next a)) (sym (filter-all a (base + 1) next window h (omega arith)))
    (subst (λ n. IsRun a n window) top (subst (λ b. IsRun b next window) same h))

-- the packets from a on
pub IsRun-filter : (a base next : ℕ) (window : List Packet) → IsRun base next window → base < a → IsRun a (max next a) (filter (λ p. nat_le a p.place) window)
IsRun-filter a base next [] h lt = omega arith
IsRun-filter a base next (q ∷ window) h lt =
    subst (IsRun a (max next a)) (sym (filter-drops a q window (omega (arith, h.0))))
    (IsRun-behind a base next window (nat_lt (base + 1) a) refl h.1 lt (λ more. IsRun-filter a (base + 1) next window h.1 more))

pub length-filter-le : {X : Type 0} (test : X → Bool) (xs : List X) → length (filter test xs) ≤ length xs
length-filter-le test xs = omega (arith, length-filter test xs, count_by-le-length test xs)
