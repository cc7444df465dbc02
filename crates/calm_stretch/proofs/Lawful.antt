-- Operations as lists of ticks, and lawful stages of them.
use Rattle.std.specs.Prelude.{◌≡◌, ℕ, ◌+◌, ◌-◌, ◌<◌, ◌≤◌, List, [], ◌∷◌, ◌++◌, length, true, false, replicate, if◌then◌else◌}
use Rattle.demand_core.specs.declared.Load.{Load}
use Rattle.demand_core.specs.declared.Base.{Base}
use Rattle.calm_stretch.specs.Moment.{Outside, taken_in}
use Rattle.calm_stretch.specs.Moment.Doing.{Free, Section}
use Rattle.calm_stretch.specs.Operations.{Operation, ticks_of_all, bounds_of_all, stored_by_all, AllTake, NoOperationLost, AreCalmOperations, Stage}
use Rattle.calm_stretch.proofs.Worlds.{World, MayBegin}
use Rattle.calm_stretch.proofs.Ticks.{Moment}

-- its ticks, one by one
abbrev pub moments_of : Operation → List Moment
moments_of o = record { bound = o.bound; drawn = o.drawn; lost = o.lost } ∷ replicate (o.ticks - 1) (record { bound = 0; drawn = 0; lost = false })

abbrev pub moments_of_all : List Operation → List Moment
moments_of_all [] = []
moments_of_all (o ∷ operations) = moments_of o ++ moments_of_all operations

-- the decision point after a stage
abbrev pub after_world : Base → Outside → World → Stage → World
after_world base out w c =
    record {
      tick = w.tick + ticks_of_all c.operations;
      stored = stored_by_all base out w.tick w.stored c.operations;
      doing = Free;
      units = 0;
      ticks = 0;
      dirty = c.dirty;
      done = λ e. taken_in c.doing w.done e;
    }

-- the stage is one that the policy lets begin, and its operations are within its bounds
pub record IsStage (base : Base) (loads : List Load) (reserve : ℕ) (out : Outside) (w : World) (c : Stage) : Type 0 where
  pub begins : MayBegin base loads reserve out w c.doing c.units c.ticks
  pub units : bounds_of_all c.operations ≤ c.units
  pub ticks : ticks_of_all c.operations + (if c.ended then 0 else 1) ≤ c.ticks
  pub dirty : c.dirty ≡ true → c.doing ≡ Section

-- up to tick z by the policy, from a decision point on; after a loss nothing is said
abbrev pub AreLawful : Base → List Load → ℕ → Outside → ℕ → World → List Stage → Type 0
AreLawful base loads reserve out z w [] = Unit {0}
AreLawful base loads reserve out z w (c ∷ stages) =
    (c.ended ≡ true → 0 < length c.operations) × AllTake c.operations × (c.ended ≡ false → stages ≡ []) ×
    (w.tick < z →
    IsStage base loads reserve out w c × AreCalmOperations base out z w.tick w.stored c.operations ×
    (NoOperationLost c.operations → AreLawful base loads reserve out z (after_world base out w c) stages))

-- every operation takes time
abbrev pub AllStagesTake : List Stage → Type 0
AllStagesTake [] = Unit {0}
AllStagesTake (c ∷ stages) = AllTake c.operations × AllStagesTake stages
