-- What a record asks, as an expression and as a pattern: that its type is found by its labels, and of each field (OCaml manual, 11.7.4 for records, and 11.6 for record patterns).
use Rattle.std.specs.Prelude.{ℕ, suc, Bool, false, ◌||◌, not, List, [], ◌∷◌, filter_map, Option, Some, None, option_map, if◌then◌else◌}
use Rattle.token_model.specs.Kinds.{Tok}
use Rattle.tree_model.specs.Trees.{Place}
use Rattle.type_model.specs.Types.{Path, Typ, occurs}
use Rattle.type_model.specs.Substitutions.{Subst}
use Rattle.type_print_model.specs.Printing.{mentions}
use Rattle.signature_model.specs.Declarations.{Name, Declaration, Label, Shape, Opaque, Variant, Labels, type_of}
use Rattle.signature_model.specs.Components.{same_name}
use Rattle.signature_model.specs.Matching.{used}
use Rattle.signature_model.specs.Entries.{Environment}
use Rattle.signature_model.specs.Lookups.{Found}
use Rattle.signature_model.specs.Records as labels
use Rattle.signature_model.specs.Records.{record_of, scope_for}
use Rattle.typing_model.specs.Demands.{label_word, module_word, unbound, twice, incomplete, test, Condition}
use Rattle.typing_model.specs.Contexts.{Choice, Context, ask}
use Rattle.typing_model.specs.Parts.{Written, place_of, place_without_point}
use Rattle.typing_model.specs.Names.{names_of, is_found, lost_behind, entry_of, label_in, then_by}

-- whether a name is one of a list
abbrev pub is_among : Name → List Name → Bool
is_among n [] = false
is_among n (m ∷ ms) = same_name n m || is_among n ms

-- the written labels whose last token is there
abbrev pub label_of : Written → Option labels.Written
label_of p = option_map (λ t. record { modules = names_of p.qualifiers; name = t.name }) p.last

-- the written labels whose last tokens are there
abbrev pub labels_of : List Written → List labels.Written
labels_of ps = filter_map label_of ps

-- the first qualifier among labels that leads to no module; a path whose last token is missing counts for nothing
abbrev pub first_lost : Environment → List Written → Option Tok
first_lost env [] = None
first_lost env (p ∷ ps) = elim (then_by p.last (λ t. lost_behind env [] p.qualifiers)) [ None ↦ first_lost env ps | Some q ↦ Some q ]

-- the first written label
abbrev pub first_token : List Written → Option Tok
first_token [] = None
first_token (p ∷ ps) = elim p.last [ None ↦ first_token ps | Some t ↦ Some t ]

-- the record type that the labels find
abbrev pub record_found : Context → List Written → Found
record_found c ps = record_of c.env (labels_of ps)

-- that the record type is found: reported at the first qualifier that leads to no module, without its point, or else at the first label; without labels nothing is asked
abbrev pub ask_record : Context → ℕ → ℕ → List Written → List Condition
ask_record c n k ps = by (first_lost c.env ps) (first_token ps)
  where
    by : Option Tok → Option Tok → List Condition
    by (Some q) t = ask n k (place_without_point q) (test (unbound module_word q.name) (is_found (record_found c ps)))
    by None None = []
    by None (Some t) = ask n k (place_of t) (test (unbound label_word t.name) (is_found (record_found c ps)))

-- the declaration of the record type, where the demand is kept
abbrev pub declaration_found : Context → List Written → Option Declaration
declaration_found c ps = then_by (entry_of (record_found c ps)) (λ e. option_map (λ r. r.0) (label_in e.stands_for))

-- the labels of a declaration
abbrev pub labels_in : Shape → List Label
labels_in Opaque = []
labels_in (Variant ks) = []
labels_in (Labels ls) = ls

-- the label of a name
abbrev pub find_label : Name → List Label → Option Label
find_label n [] = None
find_label n (l ∷ ls) = if same_name n l.name then Some l else find_label n ls

-- what a parameter is in the use of a label at a node m, in a record at a node n: one that stands in the record's type is the record's, and any other is chosen with the label;
-- the letter 0 of the node m is the type of a field without a value of its own
abbrev pub label_argument : Choice → ℕ → ℕ → Typ → Subst
label_argument ch n m owner k = if occurs k owner then ch.letter n k else ch.letter m (suc k)

-- and what an unknown type is there: one that stands in the record's type is the record's, and any other is chosen with the label
abbrev pub label_filled : Choice → ℕ → ℕ → Typ → Path → Typ
label_filled ch n m owner o = if mentions o owner then ch.filled n o else ch.filled m o

-- a type of a label as it is used so, where the record's type is `owner`
abbrev pub used_in_record : ℕ → ℕ → Typ → Typ → Choice → Typ
used_in_record n m owner t ch = used (label_argument ch n m owner) (label_filled ch n m owner) t

-- the type of a written label of a record, as it is used at the node m of its field, in the record at the node n
abbrev pub field_type : Context → ℕ → ℕ → Option Declaration → Written → Option Typ
field_type c n m found p = then_by found (λ d. then_by p.last (λ t. option_map (λ l. used_in_record n m (type_of d) l.body c.chosen) (find_label t.name (labels_in d.shape))))

-- that a written label doesn't stand among earlier ones
abbrev pub ask_once : ℕ → ℕ → List Name → Written → List Condition
ask_once n k seen p = elim p.last [ None ↦ [] | Some t ↦ ask n k (place_of t) (test (twice t.name) (not (is_among t.name seen))) ]

-- the name of a written label, if it is there
abbrev pub name_in : Written → List Name
name_in p = elim p.last [ None ↦ [] | Some t ↦ t.name ∷ [] ]

-- the first label of a declaration that isn't written
abbrev pub absent_label : List Label → List Name → Option Name
absent_label [] seen = None
absent_label (l ∷ ls) seen = if is_among l.name seen then absent_label ls seen else Some l.name

-- that each label of the declaration is written
abbrev pub ask_complete : ℕ → ℕ → Place → Option Declaration → List Name → List Condition
ask_complete n k at found seen = by (then_by found (λ d. absent_label (labels_in d.shape) seen))
  where
    by : Option Name → List Condition
    by None = []
    by (Some x) = ask n k at (test (incomplete x) false)
