-- Words for the sorts and the names of rows, which the table has as numbers.
use Rattle.std.specs.Prelude.{ℕ, List, [], ◌∷◌}
use Rattle.tree_model.specs.Rows.{Row, program_row, let_row, type_row, exception_row, module_row, modtype_row, open_row, include_row, break_row, val_row, gmodule_row, decl_row, head_row, alias_row, variant_row, record_row, con_row, label_row, with_row, tvar_row, tcon_row, tparen_row, tapp_row, ttuple_row, tarrow_row, pname_row, pany_row, pconst_row, pneg_row, pcon_row, pparen_row, plist_row, precord_row, papp_row, pcons_row, ptuple_row, por_row, pas_row, qfield_row, binding_row, case_row, ffield_row, name_row, econ_row, epath_row, econst_row, hole_row, eparen_row, ebegin_row, elist_row, erecord_row, prefix_row, field_row, eapp_row, eassert_row, ewhile_row, efor_row, eneg_row, infix_row, econs_row, etuple_row, eset_row, eif_row, eseq_row, elet_row, ematch_row, etry_row, efun_row, efunction_row, mpath_row, mstruct_row, mparen_row, mapp_row, mfunctor_row, ypath_row, ysig_row, yparen_row, ywith_row, yfunctor_row}

-- the sorts of operands; the first two are those of whole texts

-- a whole program
abbrev pub program : ℕ
program = 0

-- a whole interface
abbrev pub signature_text : ℕ
signature_text = 1

-- an item of a program or a structure
abbrev pub item : ℕ
item = 2

-- an item of an interface or a signature
abbrev pub signature_item : ℕ
signature_item = 3

-- an expression
abbrev pub expression : ℕ
expression = 4

-- a pattern
abbrev pub pattern : ℕ
pattern = 5

-- a type expression
abbrev pub type_expression : ℕ
type_expression = 6

-- a module expression
abbrev pub module_expression : ℕ
module_expression = 7

-- a module type
abbrev pub module_type : ℕ
module_type = 8

-- a binding of `let`, `p = e`
abbrev pub binding : ℕ
binding = 9

-- a case of `match`, `try` or `function`, `p -> e`
abbrev pub case : ℕ
case = 10

-- a declaration of a type, `h = r`
abbrev pub declaration : ℕ
declaration = 11

-- the head of a declaration: the parameters and the name, `'a t`
abbrev pub head : ℕ
head = 12

-- the right side of a declaration
abbrev pub right_side : ℕ
right_side = 13

-- the constructors or labels of a re-export, behind its second `=`
abbrev pub type_kind : ℕ
type_kind = 14

-- a declared constructor or exception, `A of t`
abbrev pub constructor : ℕ
constructor = 15

-- a declared label, `l : t`
abbrev pub label : ℕ
label = 16

-- a field of a record expression, `l = e`
abbrev pub field : ℕ
field = 17

-- a field of a record pattern, `l = p` or `_`
abbrev pub field_pattern : ℕ
field_pattern = 18

-- a clause of `with` in a module type, `type h = t`
abbrev pub with_clause : ℕ
with_clause = 19

-- the names of rows by their places in the list of names

-- a whole program
abbrev pub program_name : ℕ
program_name = 0

-- a `let` without `in`, `let b and b`
abbrev pub let_name : ℕ
let_name = 1

-- declarations of types, `type d and d`
abbrev pub type_name : ℕ
type_name = 2

-- a declaration of an exception, `exception c`
abbrev pub exception_name : ℕ
exception_name = 3

-- a definition of a module, `module M = m`
abbrev pub module_name : ℕ
module_name = 4

-- a definition of a module type, `module type S = y`
abbrev pub modtype_name : ℕ
modtype_name = 5

-- the opening of a module, `open M`
abbrev pub open_name : ℕ
open_name = 6

-- the inclusion of a module, `include M`
abbrev pub include_name : ℕ
include_name = 7

-- `;;` as an item
abbrev pub break_name : ℕ
break_name = 8

-- a value of a signature, `val x : t`
abbrev pub val_name : ℕ
val_name = 9

-- a module of a signature, `module M : y`
abbrev pub gmodule_name : ℕ
gmodule_name = 10

-- a declaration of a type, `h = r`
abbrev pub decl_name : ℕ
decl_name = 11

-- the head of a declaration, `'a t`
abbrev pub head_name : ℕ
head_name = 12

-- an abbreviation or a re-export, as a right side, `t` or `t = A | B`
abbrev pub alias_name : ℕ
alias_name = 13

-- declared constructors, `A | B of t`
abbrev pub variant_name : ℕ
variant_name = 14

-- declared labels in braces, `{ l : t; m : t }`
abbrev pub record_name : ℕ
record_name = 15

-- a declared constructor or exception, `A of t`
abbrev pub con_name : ℕ
con_name = 16

-- a declared label, `l : t` or `mutable l : t`
abbrev pub label_name : ℕ
label_name = 17

-- a clause of `with`, `type h = t`
abbrev pub with_name : ℕ
with_name = 18

-- a type variable, `'a`
abbrev pub tvar_name : ℕ
tvar_name = 19

-- a type constructor without arguments, `t` or `M.t`
abbrev pub tcon_name : ℕ
tcon_name = 20

-- types in parentheses, `( t )` or `( t, t )`
abbrev pub tparen_name : ℕ
tparen_name = 21

-- a type constructor behind its arguments, `t list`
abbrev pub tapp_name : ℕ
tapp_name = 22

-- a tuple type, `t * t`
abbrev pub ttuple_name : ℕ
ttuple_name = 23

-- a function type, `t -> t`
abbrev pub tarrow_name : ℕ
tarrow_name = 24

-- a value name as a pattern, `x`
abbrev pub pname_name : ℕ
pname_name = 25

-- the wildcard pattern, `_`
abbrev pub pany_name : ℕ
pany_name = 26

-- a constant as a pattern, `1`
abbrev pub pconst_name : ℕ
pconst_name = 27

-- a negative numeral as a pattern, `- 1`
abbrev pub pneg_name : ℕ
pneg_name = 28

-- a constructor as a pattern, `A` or `M.A`
abbrev pub pcon_name : ℕ
pcon_name = 29

-- a pattern in parentheses, `( p )` or `( p : t )`
abbrev pub pparen_name : ℕ
pparen_name = 30

-- a list pattern, `[ p; p ]`
abbrev pub plist_name : ℕ
plist_name = 31

-- a record pattern, `{ l = p; _ }`
abbrev pub precord_name : ℕ
precord_name = 32

-- a constructor pattern with an argument, `A p`
abbrev pub papp_name : ℕ
papp_name = 33

-- a pattern of a head and a tail, `p :: p`
abbrev pub pcons_name : ℕ
pcons_name = 34

-- a tuple pattern, `p, p`
abbrev pub ptuple_name : ℕ
ptuple_name = 35

-- an or-pattern, `p | p`
abbrev pub por_name : ℕ
por_name = 36

-- an alias pattern, `p as x`
abbrev pub pas_name : ℕ
pas_name = 37

-- a field of a record pattern, `l = p` or `_`
abbrev pub qfield_name : ℕ
qfield_name = 38

-- a binding, `p = e` or `f p p : t = e`
abbrev pub binding_name : ℕ
binding_name = 39

-- a case, `p when e -> e`
abbrev pub case_name : ℕ
case_name = 40

-- a field of a record expression, `l = e`
abbrev pub ffield_name : ℕ
ffield_name = 41

-- a value name as an expression, `x`
abbrev pub name_name : ℕ
name_name = 42

-- a constructor as an expression, `A`
abbrev pub econ_name : ℕ
econ_name = 43

-- a value or a constructor of a module, `M.x` or `M.A`
abbrev pub epath_name : ℕ
epath_name = 44

-- a constant as an expression, `1`
abbrev pub econst_name : ℕ
econst_name = 45

-- a hole in place of an expression, `_`
abbrev pub hole_name : ℕ
hole_name = 46

-- an expression in parentheses, `( e )` or `( e : t )`
abbrev pub eparen_name : ℕ
eparen_name = 47

-- a block, `begin e end` or `begin end`
abbrev pub ebegin_name : ℕ
ebegin_name = 48

-- a list expression, `[ e; e ]`
abbrev pub elist_name : ℕ
elist_name = 49

-- a record expression, `{ l = e }` or `{ e with l = e }`
abbrev pub erecord_name : ℕ
erecord_name = 50

-- a prefix operator and its operand, `! e`
abbrev pub prefix_name : ℕ
prefix_name = 51

-- an access to a field, `e . l`
abbrev pub field_name : ℕ
field_name = 52

-- an application of a head to its arguments, `e e e`
abbrev pub eapp_name : ℕ
eapp_name = 53

-- an assertion, `assert e`
abbrev pub eassert_name : ℕ
eassert_name = 54

-- a `while` loop, `while e do e done`
abbrev pub ewhile_name : ℕ
ewhile_name = 55

-- a `for` loop, `for x = e to e do e done`, or with `downto`
abbrev pub efor_name : ℕ
efor_name = 56

-- a negation, `- e` or `-. e`
abbrev pub eneg_name : ℕ
eneg_name = 57

-- an infix operator of any level and its operands, `e + e`
abbrev pub infix_name : ℕ
infix_name = 58

-- a list of a head and a tail, `e :: e`
abbrev pub econs_name : ℕ
econs_name = 59

-- a tuple expression, `e, e`
abbrev pub etuple_name : ℕ
etuple_name = 60

-- an assignment to a field, `e . l <- e`
abbrev pub eset_name : ℕ
eset_name = 61

-- a conditional, `if e then e else e` or without `else`
abbrev pub eif_name : ℕ
eif_name = 62

-- a sequence, `e; e`
abbrev pub eseq_name : ℕ
eseq_name = 63

-- a local definition, `let b in e`
abbrev pub elet_name : ℕ
elet_name = 64

-- a case analysis, `match e with c | c`
abbrev pub ematch_name : ℕ
ematch_name = 65

-- a handler of exceptions, `try e with c | c`
abbrev pub etry_name : ℕ
etry_name = 66

-- a function with parameters, `fun p p -> e`
abbrev pub efun_name : ℕ
efun_name = 67

-- a function by cases, `function c | c`
abbrev pub efunction_name : ℕ
efunction_name = 68

-- a module by its path, `M` or `M.N`
abbrev pub mpath_name : ℕ
mpath_name = 69

-- a structure, `struct i end`
abbrev pub mstruct_name : ℕ
mstruct_name = 70

-- a module in parentheses, `( m )` or `( m : y )`
abbrev pub mparen_name : ℕ
mparen_name = 71

-- an application of a functor, `m ( m )`
abbrev pub mapp_name : ℕ
mapp_name = 72

-- a functor, `functor (X : y) -> m`
abbrev pub mfunctor_name : ℕ
mfunctor_name = 73

-- a module type by its path, `S` or `M.S`
abbrev pub ypath_name : ℕ
ypath_name = 74

-- a signature, `sig g end`, and a whole interface without the two words
abbrev pub ysig_name : ℕ
ysig_name = 75

-- a module type in parentheses, `( y )`
abbrev pub yparen_name : ℕ
yparen_name = 76

-- a module type with given types, `y with w and w`
abbrev pub ywith_name : ℕ
ywith_name = 77

-- a functor type, `functor (X : y) -> y`
abbrev pub yfunctor_name : ℕ
yfunctor_name = 78

-- all names of rows
abbrev pub row_names : List Row
row_names = program_row ∷ let_row ∷ type_row ∷ exception_row ∷ module_row ∷ modtype_row ∷ open_row ∷ include_row ∷ break_row ∷ val_row ∷ gmodule_row ∷ decl_row ∷ head_row ∷ alias_row ∷ variant_row ∷ record_row ∷ con_row ∷ label_row ∷ with_row ∷ tvar_row ∷ tcon_row ∷ tparen_row ∷ tapp_row ∷ ttuple_row ∷ tarrow_row ∷ pname_row ∷ pany_row ∷ pconst_row ∷ pneg_row ∷ pcon_row ∷ pparen_row ∷ plist_row ∷ precord_row ∷ papp_row ∷ pcons_row ∷ ptuple_row ∷ por_row ∷ pas_row ∷ qfield_row ∷ binding_row ∷ case_row ∷ ffield_row ∷ name_row ∷ econ_row ∷ epath_row ∷ econst_row ∷ hole_row ∷ eparen_row ∷ ebegin_row ∷ elist_row ∷ erecord_row ∷ prefix_row ∷ field_row ∷ eapp_row ∷ eassert_row ∷ ewhile_row ∷ efor_row ∷ eneg_row ∷ infix_row ∷ econs_row ∷ etuple_row ∷ eset_row ∷ eif_row ∷ eseq_row ∷ elet_row ∷ ematch_row ∷ etry_row ∷ efun_row ∷ efunction_row ∷ mpath_row ∷ mstruct_row ∷ mparen_row ∷ mapp_row ∷ mfunctor_row ∷ ypath_row ∷ ysig_row ∷ yparen_row ∷ ywith_row ∷ yfunctor_row ∷ []
