-- The chunks of a timeline, one after the other, each as a list of ticks.
use Rattle.std.specs.Prelude.{◌≡◌, ℕ, ◌+◌, ◌-◌, ◌<◌, ◌≤◌, List, [], ◌∷◌, length, Bool, true, false, nat_le, ◌&&◌, if◌then◌else◌, min}
use Rattle.demand_core.specs.declared.Load.{Load}
use Rattle.demand_core.specs.declared.Base.{Base}
use Rattle.calm_stretch.specs.Loads.{IsAt, units_of}
use Rattle.calm_stretch.specs.Moment.{Outside, came, Doing, taken_in}
use Rattle.calm_stretch.proofs.Worlds.{World, MayBegin, kept_in}
use Rattle.calm_stretch.specs.Moment.Doing.{Free, Section}

-- one tick, with the bound of the operation that begins in it and what this draws (0 and 0 where none begins), and whether it is lost
pub record Moment : Type 0 where
  pub bound : ℕ
  pub drawn : ℕ
  pub lost : Bool

-- what one decision leads to, with its bounds in units and in ticks
pub record Chunk : Type 0 where
  pub doing : Doing
  pub units : ℕ
  pub ticks : ℕ
  pub moments : List Moment
  -- it came to its end, or was dropped; not, where the timeline ends within it
  pub ended : Bool
  -- whether something is left to save
  pub dirty : Bool

abbrev pub bounds_of : List Moment → ℕ
bounds_of [] = 0
bounds_of (m ∷ moments) = m.bound + bounds_of moments

-- the tick and the store after these ticks
abbrev pub tick_after : ℕ → List Moment → ℕ
tick_after t [] = t
tick_after t (m ∷ moments) = tick_after (t + 1) moments

abbrev pub stored_after : Base → Outside → ℕ → ℕ → List Moment → ℕ
stored_after base out t stored [] = stored
stored_after base out t stored (m ∷ moments) = stored_after base out (t + 1) (min base.cap (stored - m.drawn + out.harvest t)) moments

-- the decision point after the chunk
abbrev pub after_chunk : Base → Outside → World → Chunk → World
after_chunk base out w c =
    record {
      tick = tick_after w.tick c.moments;
      stored = stored_after base out w.tick w.stored c.moments;
      doing = Free;
      units = 0;
      ticks = 0;
      dirty = c.dirty;
      done = λ e. taken_in c.doing w.done e;
    }

-- the chunk is one that the policy lets begin, and its operations are within its bounds
pub record IsChunk (base : Base) (loads : List Load) (reserve : ℕ) (out : Outside) (w : World) (c : Chunk) : Type 0 where
  pub begins : MayBegin base loads reserve out w c.doing c.units c.ticks
  pub units : bounds_of c.moments ≤ c.units
  -- where it has not ended, more is to come
  pub ticks : length c.moments + (if c.ended then 0 else 1) ≤ c.ticks
  pub dirty : c.dirty ≡ true → c.doing ≡ Section

-- none of these is lost
abbrev pub NoneLost : List Moment → Type 0
NoneLost [] = Unit {0}
NoneLost (m ∷ moments) = (m.lost ≡ false) × NoneLost moments

-- no operation draws more than its bound, and none that has its bound is lost, up to tick z
abbrev pub AreCalm : Base → Outside → ℕ → ℕ → ℕ → List Moment → Type 0
AreCalm base out z t stored [] = Unit {0}
AreCalm base out z t stored (m ∷ moments) =
    (t < z → (m.drawn ≤ m.bound) × (m.bound ≤ stored → m.lost ≡ false)) ×
    (m.lost ≡ false → AreCalm base out z (t + 1) (min base.cap (stored - m.drawn + out.harvest t)) moments)

-- up to tick z a timeline by the policy, from a decision point on; after a loss nothing is said, nor of a chunk that begins at z or later
abbrev pub IsLawful : Base → List Load → ℕ → Outside → ℕ → World → List Chunk → Type 0
IsLawful base loads reserve out z w [] = Unit {0}
IsLawful base loads reserve out z w (c ∷ chunks) =
    (c.ended ≡ true → 0 < length c.moments) × (c.ended ≡ false → chunks ≡ []) ×
    (w.tick < z → IsChunk base loads reserve out w c × AreCalm base out z w.tick w.stored c.moments ×
    (NoneLost c.moments → IsLawful base loads reserve out z (after_chunk base out w c) chunks))

-- the tick at which the timeline ends
abbrev pub last_tick : ℕ → List Chunk → ℕ
last_tick t [] = t
last_tick t (c ∷ chunks) = last_tick (tick_after t c.moments) chunks

-- how many jobs of event e are done at tick t
abbrev pub done_at : (ℕ → ℕ) → ℕ → List Chunk → ℕ → ℕ → ℕ
done_at done start [] t e = done e
done_at done start (c ∷ chunks) t e =
    if c.ended && nat_le (tick_after start c.moments) t then done_at (λ i. taken_in c.doing done i) (tick_after start c.moments) chunks t e else done e

-- ---- what is claimed

-- no operation that begins before tick z is lost
abbrev pub NoneLostBefore : ℕ → ℕ → List Moment → Type 0
NoneLostBefore z t [] = Unit {0}
NoneLostBefore z t (m ∷ moments) = (t < z → m.lost ≡ false) × NoneLostBefore z (t + 1) moments

-- there is enough for all that is pending, and for a checkpoint if dirty
abbrev pub HasEnough : Base → List Load → Outside → World → Type 0
HasEnough base loads out w =
    units_of loads (λ e. came out e (w.tick + 1) - w.done e) + kept_in base Free w.dirty ≤ w.stored

-- so it is at each decision point up to z, and nothing is lost before z
abbrev pub IsSafe : Base → List Load → Outside → ℕ → World → List Chunk → Type 0
IsSafe base loads out z w [] = w.tick ≤ z → HasEnough base loads out w
IsSafe base loads out z w (c ∷ chunks) =
    (w.tick ≤ z → HasEnough base loads out w) × NoneLostBefore z w.tick c.moments ×
    (c.ended ≡ true → IsSafe base loads out z (after_chunk base out w c) chunks)

-- at each tick at most one arrival of each event is pending, and all that is due by then is done
abbrev pub MeetsAt : List Load → Outside → ℕ → ℕ → World → List Chunk → Type 0
MeetsAt loads out s z w chunks =
    (t : ℕ) → s ≤ t → t ≤ z → (e : ℕ) (x : Load) → IsAt loads e x →
    (came out e (t + 1) ≤ done_at w.done w.tick chunks t e + 1) × (came out e (t + 1 - x.deadline) ≤ done_at w.done w.tick chunks t e)
