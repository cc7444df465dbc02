-- Programs that say the same are served by the same versions for each row of a forecast, or not for one row and one reason.
use Rattle.std.proofs.Common.{◌≡◌, ℕ, ◌+◌, ◌/◌, List, length, Result, Ok, Err, ap, sym, ◌∙◌, subst, arith}
use Rattle.std.specs.Prelude.{◌≢◌}
use Rattle.cat_program.specs.Checked.{Checked}
use Rattle.nv_memory.specs.declared.device.Device.{Device}
use Rattle.nv_memory.specs.Layout.{cells_of, lines_of}
use Rattle.cost_bounds.specs.BoundsValue.{BoundsValue}
use Rattle.feasibility.specs.declared.choose.ChooseFault.{ChooseFault}
use Rattle.feasibility.specs.declared.choose.ChooseFault.TheVariants as choose
use Rattle.degradation.specs.declared.chosen.Chosen.{Chosen}
use Rattle.same_program.specs.Setting.{AreSettings}
use Rattle.forecast_table.specs.declared.epoch.Epoch.{Epoch}
use Rattle.forecast_choice.specs.Rows.{AreChoices, IsFirstRefused}
use Rattle.nv_memory.specs.declared.layout.Layout.{Layout}
use Rattle.cost_bounds.specs.Greatest.{AreBounds}
use Rattle.degradation.specs.Placed.{IsLayoutOf}
use Rattle.same_program.specs.Same.{IsSame}
use Rattle.catnap_top.specs.declared.fault.NoChoice.{NoChoice}
use Rattle.catnap_top.specs.declared.fault.NoChoice.TheVariants as none
use Rattle.catnap_top.specs.Alike.{Agree, IsSameProgram}
use Rattle.catnap_top.specs.Served.{NoRow, Serves, choose_fault}

abbrev pub OneChoices : Type 0
OneChoices = (p q : Checked) (d : Device) (lines : ℕ) (b c : BoundsValue) → AreSettings p q d lines b c
    → (rows : List Epoch) (found other : List Chosen) → AreChoices p b d lines rows found → AreChoices q c d lines rows other → found ≡ other

abbrev pub OneRefusal : Type 0
OneRefusal = (p q : Checked) (d : Device) (lines : ℕ) (b c : BoundsValue) → AreSettings p q d lines b c → AreSettings q p d lines c b
    → (rows : List Epoch) (m n : ℕ) (f g : ChooseFault) → IsFirstRefused p b d lines rows m f → IsFirstRefused q c d lines rows n g
    → f ≢ choose.NoMemory → g ≢ choose.NoMemory → (m ≡ n) × (f ≡ g)

abbrev pub ChoicesOrNot : Type 0
ChoicesOrNot = (p q : Checked) (d : Device) (lines : ℕ) (b c : BoundsValue) → AreSettings p q d lines b c
    → (rows : List Epoch) (found : List Chosen) (n : ℕ) (f : ChooseFault) → AreChoices p b d lines rows found → IsFirstRefused q c d lines rows n f → f ≡ choose.NoMemory

pub lines_same : (p q : Checked) (d : Device) (l m : Layout) → IsSame p q → IsLayoutOf p d l → IsLayoutOf q d m → lines_of l ≡ lines_of m
lines_same p q d l m same first second =
    let words : l.words ≡ m.words = first.words ∙ ap length same.words ∙ sym second.words in
    let tasks : l.tasks ≡ m.tasks = first.tasks ∙ ap length same.tasks ∙ sym second.tasks in
    let events : l.events ≡ m.events = first.events ∙ ap length same.events ∙ sym second.events in
    let cells : cells_of l ≡ cells_of m = omega arith in
    ap (λ n. (n + 15) / 16) cells

-- a reason is no want of memory
pub is_reason : (why : NoChoice) → choose_fault why ≢ choose.NoMemory
is_reason (none.Window spacing) e = absurd (cc)
is_reason (none.Rejected verdict) e = absurd (cc)

pub one_why : (f g : NoChoice) → choose_fault f ≡ choose_fault g → f ≡ g
one_why (none.Window s) (none.Window t) e = cc
one_why (none.Window s) (none.Rejected w) e = absurd (cc)
one_why (none.Rejected v) (none.Window t) e = absurd (cc)
one_why (none.Rejected v) (none.Rejected w) e = cc

pub back : (p q : Checked) → IsSame p q → IsSame q p
back p q same = record {
  variables = sym same.variables;
  words = sym same.words;
  names = sym same.names;
  headers = sym same.headers;
  started = sym same.started;
  tasks = sym same.tasks;
  events = sym same.events;
  mentions = sym same.mentions;
  blocks = sym same.blocks;
}

pub turned : (p q : Checked) → IsSameProgram p q → IsSameProgram q p
turned p q are = record { first = are.second; second = are.first; same = back p q are.same }

-- the bounds of both on a device
module _ (d : Device) where
  pub settings : (p q : Checked) (l m : Layout) (b c : BoundsValue) → IsSameProgram p q → IsLayoutOf p d l → IsLayoutOf q d m
      → AreBounds p d (lines_of l) b → AreBounds q d (lines_of m) c → AreSettings p q d (lines_of l) b c
  settings p q l m b c are first second bounds others = record {
    checked = are.first;
    same = are.same;
    first = bounds;
    second = subst (λ n. AreBounds q d n c) (sym (lines_same p q d l m are.same first second)) others;
  }

module _ (choices : OneChoices) (refusal : OneRefusal) (either : ChoicesOrNot) (d : Device) (rows : List Epoch) where
  -- one program's settings and the other's, by the lines of the first
  both : (p q : Checked) → IsSameProgram p q → (x y : Result (List Chosen) NoRow) → (first : Serves p d rows x) → (second : Serves q d rows y) → AreSettings p q d (lines_of first.l) first.b second.b
  both p q are x y first second = settings d p q first.l second.l first.b second.b are first.layout second.layout first.bounds second.bounds

  same_lines : (p q : Checked) → IsSameProgram p q → (x y : Result (List Chosen) NoRow) → (first : Serves p d rows x) → (second : Serves q d rows y) → lines_of second.l ≡ lines_of first.l
  same_lines p q are x y first second = sym (lines_same p q d first.l second.l are.same first.layout second.layout)

  chosen_or_not : (p q : Checked) → IsSameProgram p q → (x : List Chosen) (bad : NoRow) → Serves p d rows (Ok x) → Serves q d rows (Err bad) → ⊥
  chosen_or_not p q are x bad first second =
      is_reason bad.1
      (either p q d (lines_of first.l) first.b second.b (both p q are (Ok x) (Err bad) first second) rows x bad.0 (choose_fault bad.1) first.choices
      (subst (λ n. IsFirstRefused q second.b d n rows bad.0 (choose_fault bad.1)) (same_lines p q are (Ok x) (Err bad) first second) second.choices))

  pub one_choice : (p q : Checked) → IsSameProgram p q → Agree (λ (x y : List Chosen). x ≡ y) (Serves p d rows) (Serves q d rows)
  one_choice p q are (Ok x) (Ok y) first second =
      choices p q d (lines_of first.l) first.b second.b (both p q are (Ok x) (Ok y) first second) rows x y first.choices
      (subst (λ n. AreChoices q second.b d n rows y) (same_lines p q are (Ok x) (Ok y) first second) second.choices)
  one_choice p q are (Ok x) (Err g) first second = chosen_or_not p q are x g first second
  one_choice p q are (Err f) (Ok y) first second = chosen_or_not q p (turned p q are) y f second first
  one_choice p q are (Err f) (Err g) first second =
      let lines = same_lines p q are (Err f) (Err g) first second in
      let other : AreSettings q p d (lines_of first.l) second.b first.b = subst (λ n. AreSettings q p d n second.b first.b) lines (both q p (turned p q are) (Err g) (Err f) second first) in
      let same =
      refusal p q d (lines_of first.l) first.b second.b (both p q are (Err f) (Err g) first second) other rows f.0 g.0 (choose_fault f.1) (choose_fault g.1) first.choices
      (subst (λ n. IsFirstRefused q second.b d n rows g.0 (choose_fault g.1)) lines second.choices) (is_reason f.1) (is_reason g.1) in
      let why = one_why f.1 g.1 same.1 in
      λ i. (same.0 i, why i)
