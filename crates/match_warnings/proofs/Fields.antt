-- The fields of a record pattern, one after another.
use Rattle.std.proofs.Common.{◌≡◌, ◌∙◌, ◌++◌, ◌∷◌, ◌&&◌, ℕ, true, false, List, [], map, Option, Some, None, refl, sym, ap, append_assoc, append-nil, if◌then◌else◌}
use denote.Ref.{Bor}
use Rattle.std.proofs.lemmas.List.{map-append}
use Rattle.text_terms.specs.Bytes.{str_bytes}
use Rattle.token_model.specs.Kinds.{Tok}
use Rattle.tree_model.specs.Trees.{inner}
use Rattle.signature_model.specs.Records as rules
use Rattle.env_table.specs.declared.entries.Declaration.{Declaration}
use Rattle.env_table.specs.declared.entries.Entry.{Entry}
use Rattle.env_table.specs.declared.entries.Path.{Path}
use Rattle.env_table.specs.Labels.{written_of}
use Rattle.syntax_tree.specs.View.{node_view, tok_of}
use Rattle.syntax_tree.specs.declared.tree.Node.{Node}
use Rattle.syntax_tree.specs.declared.tree.Token.{Token}
use Rattle.row_parts.specs.Numbered as parts
use Rattle.row_parts.specs.Numbered.{Numbered, first_in, operand_view, part_of, path_view, token_view}
use Rattle.row_parts.specs.Folds.{operand_by, part_at}
use Rattle.row_parts.specs.declared.paths.WrittenPath.{WrittenPath}
use Rattle.row_parts.specs.declared.slots.Operand.{Operand}
use Rattle.typing_state.specs.Bound.{names_of_tokens}
use Rattle.use_typing.specs.Labels.{found_by, label_path, label_paths}
use Rattle.pattern_matrix.specs.Lines.{Typed}
use Rattle.match_warnings.specs.declared.pats.Written.{Written}
use Rattle.match_warnings.specs.Patterns.{Field, are_trees, field_view, fields_in, is_tree, label_in, labels_of, own_pattern, record_by, record_found, record_of, seen_rule, with_field, with_label, with_part}
use Rattle.match_warnings.proofs.Patterns.{field_seen}

-- ---- one field

-- the label of a field is there
pub label_there : (p : WrittenPath) (last : Bor Token) (w : parts.Written) → path_view p ≡ w → p.last ≡ Some last → w.last ≡ Some (tok_of last.now)
label_there p last w e is = ap (λ (q : parts.Written). q.last) (sym e) ∙ ap token_view is

-- it isn't
pub label_missing : (p : WrittenPath) (w : parts.Written) → path_view p ≡ w → p.last ≡ None → w.last ≡ None
label_missing p w e is = ap (λ (q : parts.Written). q.last) (sym e) ∙ ap token_view is

-- a path in the words of the rules
abbrev pub rule_path : List (List ℕ) → List ℕ → rules.Written
rule_path modules name = record { modules = modules; name = name }

-- a field
abbrev pub a_field : List ℕ → Option Typed → Field
a_field label pattern = record { label = label; pattern = pattern }

-- a path as it is written
abbrev pub as_written : List Tok → Option Tok → parts.Written
as_written qualifiers last = record { qualifiers = qualifiers; last = last }

-- a path that is there
path_there : (w : parts.Written) (t : Tok) → w.last ≡ Some t → label_path w ≡ rule_path (names_of_tokens w.qualifiers) t.name ∷ []
path_there w t e = ap (λ l. label_path (as_written w.qualifiers l)) e

-- one that isn't
path_missing : (w : parts.Written) → w.last ≡ None → label_path w ≡ []
path_missing w e = ap (λ l. label_path (as_written w.qualifiers l)) e

-- a path of the code in the words of the rules
written_is : (path : Path) (modules : List (List ℕ)) (name : List ℕ) → map str_bytes path.modules.items ≡ modules → str_bytes path.last ≡ name → written_of path ≡ rule_path modules name
written_is path modules name m n = ap (λ ms. rule_path ms (str_bytes path.last)) m ∙ ap (rule_path modules) n

-- the path of a label is put after others
pub path_put : (old new : List Path) (path : Path) (p : WrittenPath) (last : Bor Token) (w : parts.Written) → path_view p ≡ w → p.last ≡ Some last → new ≡ old ++ path ∷ [] →
    map str_bytes path.modules.items ≡ names_of_tokens (path_view p).qualifiers → str_bytes path.last ≡ (tok_of last.now).name → map written_of new ≡ map written_of old ++ label_path w
path_put old new path p last w e is put modules name =
    ap (map written_of) put ∙ map-append written_of old (path ∷ []) ∙ ap (λ r. map written_of old ++ r ∷ []) (written_is path (names_of_tokens w.qualifiers) (tok_of last.now).name (modules ∙ ap (λ (q : parts.Written). names_of_tokens q.qualifiers) e) name)
    ∙ ap (λ ls. map written_of old ++ ls) (sym (path_there w (tok_of last.now) (label_there p last w e is)))

-- none is
pub no_path_put : (old : List Path) (w : parts.Written) → w.last ≡ None → map written_of old ≡ map written_of old ++ label_path w
no_path_put old w e = sym (ap (λ ls. map written_of old ++ ls) (path_missing w e) ∙ append-nil (map written_of old))

-- a field is put after others
pub field_put : (env : List Entry) (old new : List Written) (f : Written) (l : Option Tok) (t : Tok) (p : Option Typed) → new ≡ old ++ f ∷ [] → l ≡ Some t → str_bytes f.label ≡ t.name → (field_view env f).pattern ≡ p →
    map (field_view env) new ≡ map (field_view env) old ++ with_field l p []
field_put env old new f l t p put is name pattern =
    ap (map (field_view env)) put ∙ map-append (field_view env) old (f ∷ []) ∙ ap (λ n. map (field_view env) old ++ a_field n (field_view env f).pattern ∷ []) name
    ∙ ap (λ q. map (field_view env) old ++ a_field t.name q ∷ []) pattern ∙ sym (ap (λ q. map (field_view env) old ++ with_field q p []) is)

-- none is
pub no_field_put : (env : List Entry) (old : List Written) (l : Option Tok) (p : Option Typed) → l ≡ None → map (field_view env) old ≡ map (field_view env) old ++ with_field l p []
no_field_put env old l p is = sym (ap (λ q. map (field_view env) old ++ with_field q p []) is ∙ append-nil (map (field_view env) old))

-- ---- several

-- the part of an operand that is there
at_node : (x : Operand) (nd : Bor Node) → x.node ≡ Some nd → (operand_view x).part ≡ inner (node_view nd.now)
at_node x nd e = ap (λ q. part_of q x.span) e

-- a tree before operands
pub trees_more : (x : Operand) (nd : Bor Node) (os : List Numbered) → x.node ≡ Some nd → are_trees (operand_view x ∷ os) ≡ are_trees os
trees_more x nd os e = ap (λ p. is_tree p && are_trees os) (at_node x nd e)

-- something else before them
pub no_tree : (x : Operand) (os : List Numbered) → x.node ≡ None → are_trees (operand_view x ∷ os) ≡ false
no_tree x os e = ap (λ q. is_tree (part_of q x.span) && are_trees os) e

-- its label before theirs
pub labels_more : (x : Operand) (nd : Bor Node) (os : List Numbered) → x.node ≡ Some nd → labels_of (operand_view x ∷ os) ≡ label_in (node_view nd.now) ∷ labels_of os
labels_more x nd os e = ap (λ p. with_label p (labels_of os)) (at_node x nd e)

-- a field before others is that field alone and then the others
field_first : (l : Option Tok) (p : Option Typed) (fs : List Field) → with_field l p fs ≡ with_field l p [] ++ fs
field_first None p fs = refl
field_first (Some t) p fs = refl

-- the tree as a field before them
pub fields_more : (env : List Entry) (x : Operand) (nd : Bor Node) (os : List Numbered) → x.node ≡ Some nd →
    fields_in env (operand_view x ∷ os) ≡ with_field (label_in (node_view nd.now)).last (own_pattern env (first_in x.number (node_view nd.now) 3)) [] ++ fields_in env os
fields_more env x nd os e =
    let t = node_view nd.now in
    ap (λ p. with_part p (part_at (seen_rule env) x.number (operand_view x).at p) (fields_in env os)) (at_node x nd e)
    ∙ ap (λ p. with_field (label_in t).last p (fields_in env os)) (field_seen env x.number t) ∙ field_first (label_in t).last (own_pattern env (first_in x.number t 3)) (fields_in env os)

-- what is put after the first ones and what is left are together what all are
pub all_with : {A : Type 0} (first mid new left rest all : List A) → mid ++ left ≡ all → left ≡ first ++ rest → new ≡ mid ++ first → new ++ rest ≡ all
all_with first mid new left rest all e l n = ap (λ xs. xs ++ rest) n ∙ append_assoc mid first rest ∙ ap (λ xs. mid ++ xs) (sym l) ∙ e

-- ---- the record

-- a record one of whose fields isn't there
pub record_unseen : (env : List Entry) (os : List Numbered) → are_trees os ≡ false → record_of env os (map (operand_by (seen_rule env)) os) ≡ None
record_unseen env os e = ap (λ b. if b then record_by (record_found (found_by env (label_paths (labels_of os)))) (fields_in env os) else None) e

-- a record whose fields are there, by what their labels find
pub record_seen : (env : List Entry) (os : List Numbered) (ps : List Path) (fs : List Written) (found : Option Declaration) → are_trees os ≡ true → map written_of ps ≡ label_paths (labels_of os) → map (field_view env) fs ≡ fields_in env os →
    found ≡ record_found (found_by env (map written_of ps)) → record_of env os (map (operand_by (seen_rule env)) os) ≡ record_by found (map (field_view env) fs)
record_seen env os ps fs found trees paths fields is =
    ap (λ b. if b then record_by (record_found (found_by env (label_paths (labels_of os)))) (fields_in env os) else None) trees ∙ ap (λ qs. record_by (record_found (found_by env qs)) (fields_in env os)) (sym paths)
    ∙ ap (λ d. record_by d (fields_in env os)) (sym is) ∙ ap (record_by found) (sym fields)
