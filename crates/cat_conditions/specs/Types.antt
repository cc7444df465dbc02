-- Sorts of names and types of values. A name or element of a wrong sort agrees with every type.
use Rattle.std.specs.Prelude.{Bool, true, false, not, ◌&&◌, Option, Some, None}
use Rattle.std.specs.List.{list_any}
use Rattle.cn_base.specs.declared.tree.Item.{Item}
use Rattle.cn_base.specs.declared.tree.Item.TheVariants as item
use Rattle.cn_base.specs.declared.tree.Operator.{Operator}
use Rattle.cn_base.specs.declared.tree.Operator.TheVariants as operator
use Rattle.cn_base.specs.declared.tree.Comparison.{Comparison}
use Rattle.cn_base.specs.declared.tree.Comparison.TheVariants as comparison
use Rattle.cn_base.specs.declared.tree.Sign.{Sign}
use Rattle.cn_base.specs.declared.tree.Sign.TheVariants as sign
use Rattle.cat_conditions.specs.declared.sort.Sort.{Sort}
use Rattle.cat_conditions.specs.declared.sort.Sort.TheVariants as sort
use Rattle.cat_conditions.specs.declared.sort.ValueType.{ValueType}
use Rattle.cat_conditions.specs.declared.sort.ValueType.TheVariants as type
use Rattle.cat_conditions.specs.Plain.{Term, number, truth, payload, variable, element, signed, chain, compare, Furthers, no_further, further, Action, set, set_at, out, post, choose, loop}
use Rattle.cat_conditions.specs.Pieces.{Piece, an_item, a_statement, an_expression}
use Rattle.cat_conditions.specs.Names.{Sorts}

-- the type of a plain variable
abbrev pub plain_type : Option Sort → Option ValueType
plain_type (Some sort.Int) = Some type.Int
plain_type (Some sort.Bool) = Some type.Bool
plain_type _ = None

abbrev pub is_plain : Option Sort → Bool
is_plain (Some sort.Int) = true
is_plain (Some sort.Bool) = true
is_plain _ = false

abbrev pub is_array : Option Sort → Bool
is_array (Some sort.Array) = true
is_array _ = false

abbrev pub is_task : Option Sort → Bool
is_task (Some sort.Task) = true
is_task _ = false

abbrev pub is_event : Option Sort → Bool
is_event (Some sort.Event) = true
is_event _ = false

abbrev pub element_type : Option Sort → Option ValueType
element_type (Some sort.Array) = Some type.Int
element_type _ = None

-- the type of both sides and of the result of an operator
abbrev pub operator_type : Operator → ValueType
operator_type operator.Or = type.Bool
operator_type operator.And = type.Bool
operator_type _ = type.Int

abbrev pub sign_type : Sign → ValueType
sign_type sign.Neg = type.Int
sign_type sign.Not = type.Bool

-- the type of a chain, given by its operator
abbrev pub chain_type : Furthers → Option ValueType
chain_type no_further = None
chain_type (further o operand others) = Some (operator_type o)

-- none where it agrees with every type
abbrev pub type_of : Sorts → Term → Option ValueType
type_of sorts (number n) = Some type.Int
type_of sorts (truth b) = Some type.Bool
type_of sorts payload = Some type.Int
type_of sorts (variable x) = plain_type (sorts x)
type_of sorts (element x index) = element_type (sorts x)
type_of sorts (signed s operand) = Some (sign_type s)
type_of sorts (chain first others) = chain_type others
type_of sorts (compare first c second) = Some type.Bool

abbrev pub is_same : ValueType → ValueType → Bool
is_same type.Int type.Int = true
is_same type.Bool type.Bool = true
is_same _ _ = false

abbrev pub agrees : Option ValueType → Option ValueType → Bool
agrees (Some t) (Some u) = is_same t u
agrees _ _ = true

abbrev pub is_of : Sorts → ValueType → Term → Bool
is_of sorts t e = agrees (Some t) (type_of sorts e)

-- the further operands and their operators are of the chain's type
abbrev pub furthers_are_of : Sorts → ValueType → Furthers → Bool
furthers_are_of sorts t no_further = true
furthers_are_of sorts t (further o operand others) = is_same t (operator_type o) && is_of sorts t operand && furthers_are_of sorts t others

abbrev pub agrees_in_chain : Sorts → Term → Furthers → Bool
agrees_in_chain sorts first no_further = true
agrees_in_chain sorts first (further o operand others) = is_of sorts (operator_type o) first && furthers_are_of sorts (operator_type o) (further o operand others)

-- `==` and `!=` take two of one type, the others take two numbers
abbrev pub agrees_in_comparison : Sorts → Term → Comparison → Term → Bool
agrees_in_comparison sorts first comparison.Eq second = agrees (type_of sorts first) (type_of sorts second)
agrees_in_comparison sorts first comparison.Ne second = agrees (type_of sorts first) (type_of sorts second)
agrees_in_comparison sorts first _ second = is_of sorts type.Int first && is_of sorts type.Int second

-- the name that stands in it is of the needed sort, and it takes the types that it gets
abbrev pub term_agrees : Sorts → Term → Bool
term_agrees sorts (variable x) = is_plain (sorts x)
term_agrees sorts (element x index) = is_array (sorts x) && is_of sorts type.Int index
term_agrees sorts (signed s operand) = is_of sorts (sign_type s) operand
term_agrees sorts (chain first others) = agrees_in_chain sorts first others
term_agrees sorts (compare first c second) = agrees_in_comparison sorts first c second
term_agrees sorts _ = true

abbrev pub action_agrees : Sorts → Action → Bool
action_agrees sorts (set x value) = is_plain (sorts x) && agrees (plain_type (sorts x)) (type_of sorts value)
action_agrees sorts (set_at x index value) = is_array (sorts x) && is_of sorts type.Int index && is_of sorts type.Int value
action_agrees sorts (out channel value) = is_of sorts type.Int value
action_agrees sorts (post x) = is_task (sorts x)
action_agrees sorts (choose test first second) = is_of sorts type.Bool test
action_agrees sorts (loop test body) = is_of sorts type.Bool test
action_agrees sorts _ = true

abbrev pub item_agrees : Sorts → Item → Bool
item_agrees sorts (item.Degrade names) = not (list_any (λ x. not (is_event (sorts x))) names)
item_agrees sorts (item.Start x) = is_task (sorts x)
item_agrees sorts _ = true

abbrev pub has_wrong_type : Sorts → Piece → Bool
has_wrong_type sorts (an_item i) = not (item_agrees sorts i)
has_wrong_type sorts (a_statement event room a) = not (action_agrees sorts a)
has_wrong_type sorts (an_expression event t) = not (term_agrees sorts t)
