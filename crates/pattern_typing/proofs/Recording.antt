-- Record patterns by the calls of their functions.
use Rattle.std.proofs.Common.{◌≡◌, ◌∙◌, ◌++◌, ℕ, ◌+◌, ◌<◌, zero, suc, arith, List, [], ◌∷◌, map, length, drop, Option, Some, None, option_map, refl, sym, ap, subst}
use Rattle.std.specs.Prelude.{All, Result, Ok, Err, OnOk}
use Rattle.std.specs.declared.alloc.AllocError.{AllocError}
use denote.Ref.{Bor}
use Rattle.std.specs.List.{slice_index_or}
use Rattle.std.proofs.lemmas.List.{map-append}
use Rattle.std.proofs.lemmas.List.Elements.{All-head, All-tail}
use Rattle.token_model.specs.Kinds.{Tok}
use Rattle.tree_model.specs.Trees.{inner}
use Rattle.signature_model.specs.Declarations.{Name}
use Rattle.syntax_tree.specs.View.{node_view}
use Rattle.syntax_tree.specs.declared.tree.Node.{Node}
use Rattle.syntax_tree.specs.declared.tree.Token.{Token}
use Rattle.row_parts.specs.declared.slots.Operand.{Operand}
use Rattle.row_parts.specs.Numbered as operands
use Rattle.row_parts.specs.Numbered.{Numbered, first_in, operand_view, part_of}
use Rattle.typing_model.specs.Parts.{Written, FieldPattern}
use Rattle.typing_model.specs.Records.{name_in}
use Rattle.type_terms.specs.declared.types.NodeRef.{NodeRef}
use Rattle.env_table.specs.declared.entries.Entry.{Entry}
use Rattle.typing_state.specs.declared.parts.Parts.{Parts}
use Rattle.typing_state.specs.Goes.{Goes}
use Rattle.typing_steps.specs.Typing.{path_as, TypesAny}
use Rattle.typing_steps.specs.Warning.{OnlyNotes}
use Rattle.operand_laws.specs.Operands.{number_of, pattern_of}
use Rattle.use_typing.specs.declared.record_types.RecordType.{RecordType}
use Rattle.use_typing.specs.declared.record_types.RecordType.TheVariants as record_type
use Rattle.use_typing.specs.Labels.{label_if, toks_of}
use Rattle.use_typing.specs.Records as of_code
use Rattle.use_typing.specs.Records.{TypesRecordType, node_of}
use Rattle.use_typing.specs.Uses.{GivenOrNew}
use Rattle.use_typing.specs.Paths.{labels_of, path_at}
use Rattle.pattern_rows.specs.Applied.{MatchesWanted}
use Rattle.pattern_rows.specs.Bounds.{Bind}
use Rattle.pattern_rows.specs.CarriedPatterns.{IsCarriedPattern}
use Rattle.record_steps.specs.Recording.{NotesScope}
use Rattle.record_rows.specs.Fields.{BeginsField, FieldsInOrder, FieldsInOrderFirst, GivesType, Puns}
use Rattle.record_rows.specs.Operands.{fields_of, IsCarriedField, MatchesFieldBy, MatchesWritten, MatchesFieldPart, MatchesRecord, PunsWritten}
use Rattle.record_rows.proofs.Nodes.{known_record, unknown_record}
use Rattle.record_rows.proofs.Operands.{operand_more}
use Rattle.use_typing.proofs.Reading.{drop_read}
use Rattle.pattern_typing.specs.Matching.{names_seen}
use Rattle.pattern_typing.specs.Records.{here_of}

-- the beginning of a field, by what is known of its record
begins_here : (found : RecordType) (a b : Parts) (labels : List Name) (p : Written) (ty : Option ℕ) → of_code.BeginsField found a b labels p ty → BeginsField (here_of found) a b labels p ty
begins_here (record_type.Known d m) a b labels p ty h = h
begins_here record_type.Open a b labels p ty h = h

-- the names of labels, with one that may be missing
labels_more : (old new : List (Bor Token)) (qs : List Tok) (last : Option Tok) → toks_of new ≡ toks_of old ++ label_if last → names_seen new ≡ names_seen old ++ name_in (record { qualifiers = qs; last = last })
labels_more old new qs None e = ap (map (λ (t : Tok). t.name)) e ∙ map-append (λ (t : Tok). t.name) (toks_of old) []
labels_more old new qs (Some t) e = ap (map (λ (t : Tok). t.name)) e ∙ map-append (λ (t : Tok). t.name) (toks_of old) (t ∷ [])

-- l = p
pub written_done : (r : Result Unit AllocError) (a mid told d : Parts) (env : List Entry) (n : ℕ) (found : RecordType) (p q : operands.Written) (o : Numbered) (wanted : Option NodeRef) (names names' : List Bind) (seen seen' : List Name) (old new : List (Bor Token)) → p ≡ q →
    of_code.BeginsField found a mid (names_seen old) (path_as p) (option_map (λ (n : NodeRef). n.0) wanted) → Goes a mid → NotesScope mid told (number_of mid.item n) env → Goes mid told → toks_of new ≡ toks_of old ++ label_if p.last →
    OnOk r (IsCarriedPattern o → MatchesWanted told d env (pattern_of told.item o) names names' seen seen' (option_map (λ (n : NodeRef). n.0) wanted)) →
    OnOk r (MatchesWritten a d env (number_of a.item n) (here_of found) (path_as q) o names names' seen seen' (names_seen old) (names_seen new))
written_done (Err e) a mid told d env n found p q o wanted names names' seen seen' old new same begins goes noted goes' labelled matched = tt
written_done (Ok x) a mid told d env n found p q o wanted names names' seen seen' old new same begins goes noted goes' labelled matched = record {
  mid = mid;
  told = told;
  type = option_map (λ (n : NodeRef). n.0) wanted;
  begins = subst (λ w. BeginsField (here_of found) a mid (names_seen old) (path_as w) (option_map (λ (n : NodeRef). n.0) wanted)) same (begins_here found a mid (names_seen old) (path_as p) (option_map (λ (n : NodeRef). n.0) wanted) begins);
  noted = subst (λ i. NotesScope mid told (number_of i n) env) goes.item noted;
  wanted = matched;
  goes_mid = goes;
  goes_told = goes';
  labelled = labels_more old new p.qualifiers p.last labelled ∙ ap (λ w. names_seen old ++ name_in (path_as w)) same;
}

-- a field that is missing
pub field_missing : (a : Parts) (env : List Entry) (found : RecordType) (o : Operand) (names : List Bind) (seen labels : List Name) → o.node ≡ None → MatchesFieldPart a a env (here_of found) o.number (operand_view o).part names names seen seen labels labels
field_missing a env found o names seen labels none = subst (λ x. MatchesFieldPart a a env (here_of found) o.number (part_of x o.span) names names seen seen labels labels) (sym none) (refl, refl, refl, refl)

-- one that is there, by its pattern
pub field_by : (r : Result Unit AllocError) (a d : Parts) (env : List Entry) (found : RecordType) (o : Operand) (nd : Bor Node) (p : Option Numbered) (names names' : List Bind) (seen seen' labels labels' : List Name) → o.node ≡ Some nd → first_in o.number (node_view nd.now) 3 ≡ p →
    OnOk r (MatchesFieldBy p a d env (here_of found) o.number (path_as (path_at (operand_view o).part)) names names' seen seen' labels labels') → OnOk r (MatchesFieldPart a d env (here_of found) o.number (operand_view o).part names names' seen seen' labels labels')
field_by (Err e) a d env found o nd p names names' seen seen' labels labels' some there h = tt
field_by (Ok x) a d env found o nd p names names' seen seen' labels labels' some there h =
    subst (λ x. MatchesFieldPart a d env (here_of found) o.number (part_of x o.span) names names' seen seen' labels labels') (sym some)
    (subst (λ q. MatchesFieldBy q a d env (here_of found) o.number (path_as (path_at (inner (node_view nd.now)))) names names' seen seen' labels labels') (sym there)
    (subst (λ y. MatchesFieldBy p a d env (here_of found) o.number (path_as (path_at (part_of y o.span))) names names' seen seen' labels labels') some h))

-- a field whose label is its name
pub punned_done : (r : Result Unit AllocError) (a mid d : Parts) (env : List Entry) (n : ℕ) (found : RecordType) (p q : operands.Written) (wanted : Option NodeRef) (names names' : List Bind) (seen seen' : List Name) (old new : List (Bor Token)) → p ≡ q →
    of_code.BeginsField found a mid (names_seen old) (path_as p) (option_map (λ (n : NodeRef). n.0) wanted) → Goes a mid → toks_of new ≡ toks_of old ++ label_if p.last → OnOk r (Puns p.last mid d env (number_of mid.item n) (option_map (λ (n : NodeRef). n.0) wanted) names names' seen seen') →
    OnOk r (PunsWritten a d env (number_of a.item n) (here_of found) (path_as q) names names' seen seen' (names_seen old) (names_seen new))
punned_done (Err e) a mid d env n found p q wanted names names' seen seen' old new same begins goes labelled puns = tt
punned_done (Ok x) a mid d env n found p q wanted names names' seen seen' old new same begins goes labelled puns =
    subst (λ w. PunsWritten a d env (number_of a.item n) (here_of found) (path_as w) names names' seen seen' (names_seen old) (names_seen new)) same (record {
      mid = mid;
      type = option_map (λ (n : NodeRef). n.0) wanted;
      begins = begins_here found a mid (names_seen old) (path_as p) (option_map (λ (n : NodeRef). n.0) wanted) begins;
      puns = subst (λ i. Puns p.last mid d env (number_of i n) (option_map (λ (n : NodeRef). n.0) wanted) names names' seen seen') goes.item puns;
      goes = goes;
      labelled = labels_more old new p.qualifiers p.last labelled;
    })

-- the type of a field, or a new one
pub gives_type : (wanted : Option NodeRef) (a b : Parts) (ty : NodeRef) → GivenOrNew wanted a b ty → (wanted ≡ None → TypesAny a b ty.0) → GivesType (option_map (λ (n : NodeRef). n.0) wanted) a b ty.0
gives_type None a b ty given any = any refl
gives_type (Some w) a b ty (is, same) any = (ap (λ (n : NodeRef). n.0) is, same)

-- a field that is read from a list of carried ones
read_field : (os : List Operand) (k : ℕ) (x : Operand) → k < length os → x ≡ slice_index_or os k x → All IsCarriedField (map operand_view os) → IsCarriedField (operand_view x)
read_field [] k x lt e all = absurd (omega arith)
read_field (o ∷ os) zero x lt e all = subst (λ z. IsCarriedField (operand_view z)) (sym e) (All-head IsCarriedField (operand_view o) (map operand_view os) all)
read_field (o ∷ os) (suc k) x lt e all = read_field os k x (omega arith) e (All-tail IsCarriedField (operand_view o) (map operand_view os) all)

-- operands as fields
abbrev pub as_fields : ℕ → List Operand → List FieldPattern
as_fields i os = fields_of i (map operand_view os)

-- one field more
pub field_step : (a b d : Parts) (env : List Entry) (found now : RecordType) (all : List Operand) (i : ℕ) (x : Operand) (names some more : List Bind) (seen after later labels labels' : List Name) → i < length all → x ≡ slice_index_or all i x → Goes a b → here_of now ≡ here_of found →
    (All IsCarriedField (map operand_view all) → FieldsInOrderFirst a b env (here_of found) (as_fields a.item all) (as_fields a.item (drop i all)) names some seen labels after) →
    MatchesFieldPart b d env (here_of now) x.number (operand_view x).part some more after later labels labels' →
    All IsCarriedField (map operand_view all) → FieldsInOrderFirst a d env (here_of found) (as_fields a.item all) (as_fields a.item (drop (i + 1) all)) names more seen labels' later
field_step a b d env found now all i x names some more seen after later labels labels' lt is goes same first one carried =
    operand_more a b d env (here_of found) (as_fields a.item all) (operand_view x) (map operand_view (drop (i + 1) all)) names some more seen after later labels labels' goes (read_field all i x lt is carried)
    (subst (λ os. FieldsInOrderFirst a b env (here_of found) (as_fields a.item all) (as_fields a.item os) names some seen labels after) (drop_read all i x lt is) (first carried))
    (subst (λ h. MatchesFieldPart b d env h x.number (operand_view x).part some more after later labels labels') same one)

-- { l = p } by its calls
pub record_done : (a b e v d : Parts) (env : List Entry) (os : List Numbered) (found : RecordType) (ty : NodeRef) (names names' : List Bind) (seen seen' : List Name) → OnlyNotes a b → Goes a b → TypesRecordType found b e env (map path_as (labels_of os)) → Goes b e →
    GivenOrNew (node_of found) e v ty → (node_of found ≡ None → TypesAny e v ty.0) → Goes e v → (All IsCarriedField os → FieldsInOrder v d env (here_of found) (fields_of v.item os) names names' seen seen') → All IsCarriedField os →
    MatchesRecord a d env (fields_of a.item os) names names' seen seen' ty.0
record_done a b e v d env os (record_type.Known r m) ty names names' seen seen' notes goes typed goes' (is, same) any goes'' fields carried =
    let item : v.item ≡ a.item = goes''.item ∙ goes'.item ∙ goes.item in
    let here = subst (λ i. FieldsInOrder v d env (Some (r.value, m.0)) (fields_of i os) names names' seen seen') item (fields carried) in
    let there = subst (λ z. FieldsInOrder z d env (Some (r.value, m.0)) (fields_of a.item os) names names' seen seen') same here in
    subst (λ (t : NodeRef). MatchesRecord a d env (fields_of a.item os) names names' seen seen' t.0) (sym is) (known_record a b e d env a.item os names names' seen seen' r.value m.0 notes goes typed goes' carried there)
record_done a b e v d env os record_type.Open ty names names' seen seen' notes goes typed goes' given any goes'' fields carried =
    let item : v.item ≡ a.item = goes''.item ∙ goes'.item ∙ goes.item in
    let here = subst (λ i. FieldsInOrder v d env None (fields_of i os) names names' seen seen') item (fields carried) in
    unknown_record a b e v d env a.item os names names' seen seen' ty.0 notes goes typed goes' (any refl) goes'' carried here
