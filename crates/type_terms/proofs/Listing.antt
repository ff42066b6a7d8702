-- Lists of types of the code under a substitution and under replacements.
use Rattle.std.proofs.Common.{◌≡◌, ℕ, List, ◌∷◌, ◌++◌, length, map, Option, Some, None, sym, ◌∙◌, ap}
use Rattle.std.specs.Prelude.{slice_get, unwrap_or, option_map}
use Rattle.std.proofs.lemmas.Option.{slice_get-map}
use Rattle.type_model.specs.Types.{Path, Typ, types_of}
use Rattle.type_model.specs.Substitutions.{Subst, apply, apply_all, with_arguments}
use Rattle.type_model.specs.Origins.{replaced_by, all_replaced_by, put_for, replacement_for, list_of}
use Rattle.type_model.proofs.Applying.{apply_all-types_of}
use Rattle.type_model.proofs.Replacing.{all_replaced_by-types_of, list_of-types_of}
use Rattle.type_terms.specs.Views.{type_by, type_step, spelling_of, path_in, replacements_by, spelled_for}
use Rattle.type_terms.specs.declared.types.Ty.{Ty}
use Rattle.type_terms.specs.declared.types.Origin.{Origin}
use Rattle.type_terms.specs.declared.types.OriginMap.{OriginMap}
use Rattle.text_terms.specs.Bytes.{str_bytes}
use Rattle.std.proofs.Math.Seq.{take-append_seam}
use Rattle.type_terms.specs.declared.types.Ty.TheVariants.{Var, Tuple, Con, rolls-Var, rolls-Tuple, rolls-Con}
use Rattle.type_terms.specs.declared.types.Ty.TheOpen.{Ty-F}
use Rattle.type_terms.specs.declared.types.Ty.TheFolds.{fold-roll-Ty}
use Rattle.type_model.specs.Types.{Typ as plain}
use Rattle.std.proofs.Common.{Vec, Global}

-- types that are those of the list after a substitution
pub apply_listed : (s : Subst) (us ts : List Typ) → us ≡ map (apply s) ts → types_of us ≡ apply_all s (types_of ts)
apply_listed s us ts e = ap types_of e ∙ sym (apply_all-types_of s ts)

-- types that are those of the list after replacements
pub replaced_listed : (find : Path → Option Typ) (us ts : List Typ) → us ≡ map (replaced_by find) ts → types_of us ≡ all_replaced_by find (types_of ts)
replaced_listed find us ts e = ap types_of e ∙ sym (all_replaced_by-types_of find ts)

-- a body with the replaced arguments is what stands in place of the constructor
pub put_listed : (find : Path → Option Typ) (o : Path) (body : Typ) (us ts : List Typ) → Some body ≡ find o → us ≡ map (replaced_by find) ts →
    apply (with_arguments us) body ≡ replaced_by find (plain.Con o (types_of ts))
put_listed find o body us ts found e =
    ap (λ l. apply (with_arguments l) body) (sym (list_of-types_of us)) ∙ ap (λ l. apply (with_arguments (list_of l)) body) (replaced_listed find us ts e)
    ∙ ap (λ r. put_for o r (all_replaced_by find (types_of ts))) found

-- what a variable, a tuple and a constructor mean
pub var_type : (label : Origin → Path) (v : ℕ) → type_by label (Var v) ≡ plain.Var v
var_type label v = ap (type_by label) (sym (rolls-Var v)) ∙ fold-roll-Ty Typ (type_step label) (Ty-F.Var v)

pub tuple_type : (label : Origin → Path) (parts : Vec Ty Global) → type_by label (Tuple parts) ≡ plain.Tuple (types_of (map (type_by label) parts.items))
tuple_type label parts = ap (type_by label) (sym (rolls-Tuple parts)) ∙ fold-roll-Ty Typ (type_step label) (Ty-F.Tuple parts)

pub con_type : (label : Origin → Path) (o : Origin) (args : Vec Ty Global) → type_by label (Con o args) ≡ plain.Con (label o) (types_of (map (type_by label) args.items))
con_type label o args = ap (type_by label) (sym (rolls-Con o args)) ∙ fold-roll-Ty Typ (type_step label) (Ty-F.Con o args)

-- where there is no argument, the variable is itself
pub no_argument : (label : Origin → Path) (args : List Ty) (v : ℕ) → slice_get args v ≡ None → type_by label (Var v) ≡ with_arguments (map (type_by label) args) v
no_argument label args v e = var_type label v ∙ sym (ap (λ o. unwrap_or o (plain.Var v)) (slice_get-map (type_by label) args v ∙ ap (option_map (type_by label)) e))

-- a tuple and a constructor of the changed parts are the changed tuple and constructor
pub filled_tuple : (label : Origin → Path) (s : Subst) (ty : Ty) (parts us : Vec Ty Global) → ty ≡ Tuple parts →
    map (type_by label) us.items ≡ map (apply s) (map (type_by label) parts.items) → type_by label (Tuple us) ≡ apply s (type_by label ty)
filled_tuple label s ty parts us is e =
    tuple_type label us ∙ ap plain.Tuple (apply_listed s (map (type_by label) us.items) (map (type_by label) parts.items) e)
    ∙ ap (apply s) (sym (ap (type_by label) is ∙ tuple_type label parts))

pub filled_con : (label : Origin → Path) (s : Subst) (ty : Ty) (o o' : Origin) (parts us : Vec Ty Global) → ty ≡ Con o parts → label o' ≡ label o →
    map (type_by label) us.items ≡ map (apply s) (map (type_by label) parts.items) → type_by label (Con o' us) ≡ apply s (type_by label ty)
filled_con label s ty o o' parts us is same e =
    let args = apply_listed s (map (type_by label) us.items) (map (type_by label) parts.items) e in
    con_type label o' us ∙ (λ i. plain.Con (same i) (args i)) ∙ ap (apply s) (sym (ap (type_by label) is ∙ con_type label o parts))

pub replaced_tuple : (label : Origin → Path) (find : Path → Option Typ) (ty : Ty) (parts us : Vec Ty Global) → ty ≡ Tuple parts →
    map (type_by label) us.items ≡ map (replaced_by find) (map (type_by label) parts.items) → type_by label (Tuple us) ≡ replaced_by find (type_by label ty)
replaced_tuple label find ty parts us is e =
    tuple_type label us ∙ ap plain.Tuple (replaced_listed find (map (type_by label) us.items) (map (type_by label) parts.items) e)
    ∙ ap (replaced_by find) (sym (ap (type_by label) is ∙ tuple_type label parts))

-- a constructor that has no replacement stays, with its arguments changed
pub replaced_con : (label : Origin → Path) (find : Path → Option Typ) (ty : Ty) (o o' : Origin) (parts us : Vec Ty Global) → ty ≡ Con o parts → label o' ≡ label o →
    None ≡ find (label o) →
    map (type_by label) us.items ≡ map (replaced_by find) (map (type_by label) parts.items) → type_by label (Con o' us) ≡ replaced_by find (type_by label ty)
replaced_con label find ty o o' parts us is same none e =
    let args = replaced_listed find (map (type_by label) us.items) (map (type_by label) parts.items) e in
    con_type label o' us ∙ (λ i. plain.Con (same i) (args i))
    ∙ ap (λ r. put_for (label o) r (all_replaced_by find (types_of (map (type_by label) parts.items)))) none
    ∙ ap (replaced_by find) (sym (ap (type_by label) is ∙ con_type label o parts))

-- in the place of a constructor that has a replacement stands that, with the changed arguments
pub replaced_put : (label : Origin → Path) (find : Path → Option Typ) (ty : Ty) (o : Origin) (parts us : Vec Ty Global) (body : Typ) → ty ≡ Con o parts →
    Some body ≡ find (label o) →
    map (type_by label) us.items ≡ map (replaced_by find) (map (type_by label) parts.items) →
    apply (with_arguments (map (type_by label) us.items)) body ≡ replaced_by find (type_by label ty)
replaced_put label find ty o parts us body is found e =
    put_listed find (label o) body (map (type_by label) us.items) (map (type_by label) parts.items) found e ∙ ap (replaced_by find) (sym (ap (type_by label) is ∙ con_type label o parts))

-- a spelling has its path in it
pub path_spelled : (o : Origin) → path_in (spelling_of o) ≡ o.path.items
path_spelled o = take-append_seam o.path.items (str_bytes o.name)

-- what is found by a path is found by the spelling
pub found_spelled : (m : OriginMap) (o : Origin) → replacement_for o.path.items (replacements_by spelling_of m) ≡ spelled_for m (spelling_of o)
found_spelled m o = ap (λ p. replacement_for p (replacements_by spelling_of m)) (sym (path_spelled o))

-- the same path and name are the same spelling
pub same_spelling : (o o' : Origin) → o'.path.items ≡ o.path.items → str_bytes o'.name ≡ str_bytes o.name → spelling_of o' ≡ spelling_of o
same_spelling o o' path name = λ i. length (path i) ∷ (path i ++ name i)
