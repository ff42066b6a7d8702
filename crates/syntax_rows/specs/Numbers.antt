-- The numbers that keys, sorts and names of rows have in the definition of the table.
use Rattle.std.specs.Prelude.{ℕ}
use Rattle.grammar_model.specs.Keys.{kind_key, star_key, minus_key, minus_point_key, equal_key}
use Rattle.grammar_model.specs.Words as word
use Rattle.syntax_tree.specs.Names.{kind_of}
use Rattle.syntax_tree.specs.declared.kinds.TokenKind.{TokenKind}
use Rattle.syntax_tree.specs.declared.rows.RowName.{RowName}
use Rattle.syntax_tree.specs.declared.rows.RowName.TheVariants as name
use Rattle.syntax_rows.specs.declared.keys.Key.{Key}
use Rattle.syntax_rows.specs.declared.keys.Key.TheVariants.{Kind, Star, Minus, MinusPoint, Equal}
use Rattle.syntax_rows.specs.declared.rows.Sort.{Sort}
use Rattle.syntax_rows.specs.declared.rows.Sort.TheVariants as sort

-- the key of a kind
unfoldable pub kind_number : TokenKind → ℕ
kind_number k = kind_key (kind_of k)

-- the number of a key
abbrev pub key_number : Key → ℕ
key_number (Kind k) = kind_number k
key_number Star = star_key
key_number Minus = minus_key
key_number MinusPoint = minus_point_key
key_number Equal = equal_key

-- the number of a sort
unfoldable pub sort_number : Sort → ℕ
sort_number sort.Program = word.program
sort_number sort.SignatureText = word.signature_text
sort_number sort.Item = word.item
sort_number sort.SignatureItem = word.signature_item
sort_number sort.Expression = word.expression
sort_number sort.Pattern = word.pattern
sort_number sort.TypeExpression = word.type_expression
sort_number sort.ModuleExpression = word.module_expression
sort_number sort.ModuleType = word.module_type
sort_number sort.Binding = word.binding
sort_number sort.Case = word.case
sort_number sort.Declaration = word.declaration
sort_number sort.Head = word.head
sort_number sort.RightSide = word.right_side
sort_number sort.TypeKind = word.type_kind
sort_number sort.Constructor = word.constructor
sort_number sort.Label = word.label
sort_number sort.Field = word.field
sort_number sort.FieldPattern = word.field_pattern
sort_number sort.WithClause = word.with_clause

-- the number of a row's name
unfoldable pub name_number : RowName → ℕ
name_number name.Program = word.program_name
name_number name.Let = word.let_name
name_number name.TypeRow = word.type_name
name_number name.Exception = word.exception_name
name_number name.Module = word.module_name
name_number name.Modtype = word.modtype_name
name_number name.Open = word.open_name
name_number name.Include = word.include_name
name_number name.Break = word.break_name
name_number name.Val = word.val_name
name_number name.Gmodule = word.gmodule_name
name_number name.Decl = word.decl_name
name_number name.Head = word.head_name
name_number name.Alias = word.alias_name
name_number name.Variant = word.variant_name
name_number name.Record = word.record_name
name_number name.Con = word.con_name
name_number name.LabelRow = word.label_name
name_number name.WithRow = word.with_name
name_number name.Tvar = word.tvar_name
name_number name.Tcon = word.tcon_name
name_number name.Tparen = word.tparen_name
name_number name.Tapp = word.tapp_name
name_number name.Ttuple = word.ttuple_name
name_number name.Tarrow = word.tarrow_name
name_number name.Pname = word.pname_name
name_number name.Pany = word.pany_name
name_number name.Pconst = word.pconst_name
name_number name.Pneg = word.pneg_name
name_number name.Pcon = word.pcon_name
name_number name.Pparen = word.pparen_name
name_number name.Plist = word.plist_name
name_number name.Precord = word.precord_name
name_number name.Papp = word.papp_name
name_number name.Pcons = word.pcons_name
name_number name.Ptuple = word.ptuple_name
name_number name.Por = word.por_name
name_number name.Pas = word.pas_name
name_number name.Qfield = word.qfield_name
name_number name.Binding = word.binding_name
name_number name.Case = word.case_name
name_number name.Ffield = word.ffield_name
name_number name.Name = word.name_name
name_number name.Econ = word.econ_name
name_number name.Epath = word.epath_name
name_number name.Econst = word.econst_name
name_number name.Hole = word.hole_name
name_number name.Eparen = word.eparen_name
name_number name.Ebegin = word.ebegin_name
name_number name.Elist = word.elist_name
name_number name.Erecord = word.erecord_name
name_number name.Prefix = word.prefix_name
name_number name.Field = word.field_name
name_number name.Eapp = word.eapp_name
name_number name.Eassert = word.eassert_name
name_number name.Ewhile = word.ewhile_name
name_number name.Efor = word.efor_name
name_number name.Eneg = word.eneg_name
name_number name.Infix = word.infix_name
name_number name.Econs = word.econs_name
name_number name.Etuple = word.etuple_name
name_number name.Eset = word.eset_name
name_number name.Eif = word.eif_name
name_number name.Eseq = word.eseq_name
name_number name.Elet = word.elet_name
name_number name.Ematch = word.ematch_name
name_number name.Etry = word.etry_name
name_number name.Efun = word.efun_name
name_number name.Efunction = word.efunction_name
name_number name.Mpath = word.mpath_name
name_number name.Mstruct = word.mstruct_name
name_number name.Mparen = word.mparen_name
name_number name.Mapp = word.mapp_name
name_number name.Mfunctor = word.mfunctor_name
name_number name.Ypath = word.ypath_name
name_number name.Ysig = word.ysig_name
name_number name.Yparen = word.yparen_name
name_number name.Ywith = word.ywith_name
name_number name.Yfunctor = word.yfunctor_name
