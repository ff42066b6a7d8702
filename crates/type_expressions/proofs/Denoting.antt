-- What functions of type expressions denote in a declaration, by what their calls do.
use Rattle.std.proofs.Common.{◌≡◌, ◌∙◌, ◌++◌, ◌+◌, ◌<◌, ◌≤◌, ◌^◌, ◌==◌, ℕ, zero, suc, Bool, true, false, List, [], ◌∷◌, length, map, drop, get_or, Some, None, refl, sym, ap, subst, arith, if◌then◌else◌}
use Rattle.std.specs.Prelude.{All, Option, slice_index_or, slice_get, codes}
use Rattle.std.specs.Option.{option_or}
use Rattle.std.specs.Str.{bytes_eq}
use Rattle.std.proofs.lemmas.List.{drop_more}
use Rattle.std.proofs.lemmas.List.Elements.{All-nil}
use Rattle.tree_model.specs.Rows.{Row, tparen_row, tapp_row, ttuple_row, tarrow_row}
use Rattle.tree_model.specs.Trees.{Place, Tree, node}
use denote.Ref.{Bor}
use Rattle.text_terms.specs.Bytes.{str_bytes}
use Rattle.text_terms.specs.declared.Span.{Span}
use Rattle.syntax_tree.specs.View.{place_of, node_view}
use Rattle.syntax_tree.specs.declared.tree.Node.{Node}
use Rattle.row_parts.specs.declared.slots.Operand.{Operand}
use Rattle.row_parts.specs.Numbered.{Numbered, operand_view, part_of, filled_in}
use Rattle.signature_model.specs.Declarations.{Name}
use Rattle.typing_model.specs.Contexts.{Context, tell}
use Rattle.typing_model.specs.Demands.{Condition}
use Rattle.typing_model.specs.TypeExpressions.{index_from, read_all, nodes_of}
use Rattle.type_terms.specs.declared.types.NodeRef.{NodeRef}
use Rattle.type_nodes.specs.Nodes.{IsNode, Arrow}
use Rattle.type_nodes.specs.Changes.{Makes}
use Rattle.type_nodes.specs.Views.{numbers}
use Rattle.env_table.specs.declared.entries.Entry.{Entry}
use Rattle.env_table.specs.declared.seen.Seen.{Seen}
use Rattle.typing_state.specs.declared.parts.Parts.{Parts}
use Rattle.typing_state.specs.declared.demands.Verdict.{Verdict}
use Rattle.typing_state.specs.Demands.{ArityIs}
use Rattle.typing_state.specs.Goes.{Goes, OnlyIndex, OnlyFaults, OnlyStore}
use Rattle.typing_state.specs.Notes.{Noted}
use Rattle.typing_steps.specs.States.{is_aloud}
use Rattle.operand_laws.specs.Formed.{row_of}
use Rattle.operand_laws.specs.Operands.{number_of, type_of}
use Rattle.operand_laws.proofs.Standing.{type_of_stands}
use Rattle.typing_rows.specs.Rows.{types_read, front_nodes, front_asks, end_asks}
use Rattle.typing_rows.specs.Operands.{IsTypeOperand, part_asks}
use Rattle.typing_rows.proofs.Placed.{slot_operands, row_operands, filled_operand}
use Rattle.typing_rows.specs.Settled.{behind}
use Rattle.typing_rows.proofs.Settling.{settled_trans, settled_told}
use Rattle.typing_rows.proofs.DeclaredOrdered.{index_reports}
use Rattle.declared_rows.specs.Contracts.{DenotesTo, DenotesAll, DenotesFirst, DenotesEnd, MakesUnknown}
use Rattle.declared_rows.specs.Operands.{DenotesOperand, DenotesPart, DenotesOperands, DenotesGiven, DenotesFront, DenotesEnds, DenotesVariable, DenotesParentheses, MakesArrow}
use Rattle.declared_rows.proofs.Going.{assigned_then}
use Rattle.declared_rows.proofs.Ends.{unknown_alone, none_inside, one_inside, several_inside}
use Rattle.typing_rows.proofs.Noted.{noted_on}
use Rattle.declared_rows.proofs.Ordered.{inside_on, index_still, alone_row, node_row, noted_denotes, one_denoted, all_denoted_here, denotes_as, alone_denoted}
use Rattle.type_expressions.specs.declared.types.Parameter.{Parameter}
use Rattle.type_expressions.specs.Items.{names_of, parameter_in}
use Rattle.type_expressions.specs.Items as items
use Rattle.type_expressions.specs.Operands.{parts_by_row, parts_read, several}
use Rattle.type_expressions.proofs.Answering.{many_numbers}
use Rattle.type_expressions.proofs.Carrying.{part_read, alone_operand, several_operand, numbers_more, operand_there}
use Rattle.type_expressions.proofs.Settling.{names_turned}

-- a type expression, once its node is recorded
pub operand_denotes : (a b d : Parts) (env : List Entry) (names : List Name) (ps : List ℕ) (o : Operand) (m : ℕ) (seen : Seen) → o.number < 2 ^ 32 → DenotesPart a b env names ps o.number (place_of o.span) (part_of o.node o.span) m → Goes a b → Noted b.telling b d o.number seen → OnlyIndex b d → Goes b d → DenotesOperand a d env names ps (operand_view o) m
operand_denotes a b d env names ps o m seen small read goes noted rest goes' operand =
    let n = number_of a.item o.number in
    let asks : Context → List Condition = λ c. part_asks a.item o.number (place_of o.span) (part_of o.node o.span) c in
    subst (λ k. DenotesTo a d env names ps (λ c. (type_of a.item (operand_view o)).read c) k m) (sym (type_of_stands a.item (operand_view o)).number)
    (denotes_as a d env names ps (λ c. tell n c ++ asks c) (λ c. (type_of a.item (operand_view o)).read c) n m (λ c. part_read a.item o.number (place_of o.span) (part_of o.node o.span) c operand.formed)
    (noted_denotes a b d env names ps asks o.number m seen small (read operand.formed operand.placed) goes noted rest goes'))

-- a type expression that is missing
pub missing_denotes : (a b : Parts) (env : List Entry) (names : List Name) (ps : List ℕ) (o : Operand) (m : ℕ) → o.node ≡ None → MakesUnknown a b m → Goes a b → DenotesPart a b env names ps o.number (place_of o.span) (part_of o.node o.span) m
missing_denotes a b env names ps o m none made goes =
    subst (λ (x : Option (Bor Node)). DenotesPart a b env names ps o.number (place_of o.span) (part_of x o.span) m) (sym none) (λ formed placed. alone_row a b env names ps _ (number_of a.item o.number) m (unknown_alone a b env names ps (number_of a.item o.number) m made) goes)

-- a node: its parts, and then its end
pub node_denotes : (a b d : Parts) (env : List Entry) (names : List Name) (ps : List ℕ) (o : Operand) (nd : Bor Node) (ms : List ℕ) (m : ℕ) → o.node ≡ Some nd → DenotesFront a b env names ps o.number (node_view nd.now) ms → Goes a b → DenotesEnds b d env names ps (node_view nd.now) ms m → Goes b d →
    DenotesPart a d env names ps o.number (place_of o.span) (part_of o.node o.span) m
node_denotes a b d env names ps o nd ms m there front goes ends goes' = subst (λ (x : Option (Bor Node)). DenotesPart a d env names ps o.number (place_of o.span) (part_of x o.span) m) (sym there) (λ formed placed.
    let t = node_view nd.now in
    let end = subst (λ i. DenotesEnd b d env names ps (λ c. end_asks (row_of t) i o.number (place_of o.span) t c) (front_nodes (row_of t) i o.number t) ms (number_of i o.number) m) goes.item (ends o.number (place_of o.span) formed placed) in
    node_row a b d env names ps (λ c. front_asks (row_of t) a.item o.number t c) (λ c. end_asks (row_of t) a.item o.number (place_of o.span) t c) (front_nodes (row_of t) a.item o.number t) ms (number_of a.item o.number) m (front formed) goes end goes')

-- what stands in front of a constructor is all that is read there
pub app_denotes : (a b : Parts) (env : List Entry) (names : List Name) (ps : List ℕ) (n : ℕ) (t : Tree) (ms : List ℕ) → row_of t ≡ tapp_row → DenotesGiven a b env names ps (filled_in n t 0) ms → DenotesFront a b env names ps n t ms
app_denotes a b env names ps n t ms row given formed =
    subst (λ r. DenotesAll a b env names ps (λ c. front_asks r a.item n t c) (front_nodes r a.item n t) ms) (sym row) (given (filled_operand n t 0 formed))

-- of another row its operands are
pub other_denotes : (a b : Parts) (env : List Entry) (names : List Name) (ps : List ℕ) (n : ℕ) (t : Tree) (ms : List ℕ) → (row_of t ≡ tapp_row → ⊥) → DenotesOperands a b env names ps (parts_read n t) ms → DenotesFront a b env names ps n t ms
unfolding parts_by_row
other_denotes a b env names ps n (node r x us) ms other read formed = by r other read
  where
    t : Tree
    t = node r x us

    by : (q : Row) → (q ≡ tapp_row → ⊥) → DenotesOperands a b env names ps (parts_by_row q n t) ms → DenotesAll a b env names ps (λ c. front_asks q a.item n t c) (front_nodes q a.item n t) ms
    by tparen_row o h = h (slot_operands n t 1 formed)
    by tapp_row o h = absurd (o refl)
    by ttuple_row o h = h (row_operands n t formed)
    by tarrow_row o h = h (row_operands n t formed)
    by _ o h = h (All-nil IsTypeOperand)

-- one type expression alone in front of a constructor
pub alone_denotes : (a b : Parts) (env : List Entry) (names : List Name) (ps : List ℕ) (o : Numbered) (m : ℕ) → several o ≡ None → DenotesOperand a b env names ps o m → DenotesGiven a b env names ps o (m ∷ [])
alone_denotes a b env names ps o m none read operand =
    let alone = alone_operand a.item o none operand.formed in
    let one = alone_denoted a b env names ps (λ c. (type_of a.item o).read c) (type_of a.item o).node m (read operand) in
    subst (λ ns. DenotesAll a b env names ps (λ c. (type_of a.item o).grouped_read c) ns (m ∷ [])) (sym alone.grouped) (λ aloud B around F arity U A inside noted. all_denoted_here (λ c h. sym (alone.read c)) (one aloud B around F arity U A inside noted))

-- several type expressions in parentheses in front of a constructor, once their node is recorded
pub several_denotes : (a b d : Parts) (env : List Entry) (names : List Name) (ps : List ℕ) (o : Numbered) (os : List Numbered) (ms : List ℕ) → several o ≡ Some os → OnlyIndex a b → Goes a b → DenotesOperands b d env names ps os ms → DenotesGiven a d env names ps o ms
several_denotes a b d env names ps o os ms some only goes read operand =
    let h = several_operand a.item o os some operand.formed in
    let all = subst (λ i. DenotesAll b d env names ps (λ c. read_all c (types_read i os)) (nodes_of (types_read i os)) ms) goes.item (read h.operands) in
    subst (λ ns. DenotesAll a d env names ps (λ c. (type_of a.item o).grouped_read c) ns ms) (sym h.nodes) (λ aloud B around F arity U A inside noted.
    let still = index_still a b only inside.assigns in
    let x = all (ap is_aloud goes.telling ∙ aloud) (behind B [] []) around F arity U A (inside_on inside still) (noted_on U noted goes) in
    all_denoted_here (λ c k. sym (h.asks c)) (record {
      settled = record {
        judged = x.settled.judged;
        told = x.settled.told;
        fixes = x.settled.fixes;
        types = x.settled.types;
        reports = x.settled.reports ∙ ap (λ rs. rs ++ x.settled.told) (index_reports a b only);
        settled = settled_trans (settled_told (number_of a.item o.number)) x.settled.settled;
        gives = x.settled.gives;
        many = x.settled.many;
      };
      numbers = x.numbers;
      all = record { on = assigned_then still x.all.on; denote = x.all.denote };
      noted = x.noted;
    }))

-- one type expression more was read in a loop
pub each_denotes : (a b d : Parts) (env : List Entry) (names : List Name) (ps : List ℕ) (os : List Operand) (i : ℕ) (x : Operand) (ms new : List NodeRef) (m : NodeRef) → i < length os → x ≡ slice_index_or os i x → new ≡ ms ++ m ∷ [] → All IsTypeOperand (map operand_view os) →
    DenotesFirst a b env names ps (types_read a.item (map operand_view os)) (types_read a.item (map operand_view (drop i os))) (numbers ms) → Goes a b → DenotesOperand b d env names ps (operand_view x) m.0 →
    DenotesFirst a d env names ps (types_read a.item (map operand_view os)) (types_read a.item (map operand_view (drop (i + 1) os))) (numbers new)
each_denotes a b d env names ps os i x ms new m lt here pushed all first goes read =
    let cut : drop i os ≡ x ∷ drop (i + 1) os = drop_more os i x lt ∙ ap (λ o. o ∷ drop (i + 1) os) (sym here) in
    let one = subst (λ k. DenotesTo b d env names ps (λ c. (type_of k (operand_view x)).read c) (type_of k (operand_view x)).node m.0) goes.item (read (operand_there os i x lt here all)) in
    subst (DenotesFirst a d env names ps (types_read a.item (map operand_view os)) (types_read a.item (map operand_view (drop (i + 1) os)))) (sym (ap numbers pushed ∙ numbers_more ms m))
    (one_denoted a b d env names ps (types_read a.item (map operand_view os)) (types_read a.item (map operand_view (drop (i + 1) os))) (type_of a.item (operand_view x)) (numbers ms) m.0
    (subst (λ us. DenotesFirst a b env names ps (types_read a.item (map operand_view os)) (types_read a.item (map operand_view us)) (numbers ms)) cut first) goes one)

-- a type variable that is missing
pub missing_variable : (a b : Parts) (names : List Name) (ps : List ℕ) (m : ℕ) → MakesUnknown a b m → DenotesVariable a b names ps None m
missing_variable a b names ps m made env n at = unknown_alone a b env names ps n m made

-- parentheses around nothing
pub empty_denotes : (a b : Parts) (names : List Name) (ps : List ℕ) (at : Place) (xs : List NodeRef) (m : ℕ) → length xs < 1 → DenotesParentheses a b names ps at (numbers xs) m
empty_denotes a b names ps at [] m lt = none_inside a b names ps at m
empty_denotes a b names ps at (x ∷ xs) m lt = absurd (omega arith)

-- one type in parentheses
pub single_denotes : (a : Parts) (names : List Name) (ps : List ℕ) (at : Place) (xs : List NodeRef) (d : NodeRef) → 1 ≤ length xs → length xs < 2 → DenotesParentheses a a names ps at (numbers xs) (get_or xs 0 d).0
single_denotes a names ps at [] d le lt = absurd (omega arith)
single_denotes a names ps at (x ∷ []) d le lt = one_inside a names ps at x.0
single_denotes a names ps at (x ∷ y ∷ ys) d le lt = absurd (omega arith)

-- several types in parentheses
pub several_unknown : (a b d : Parts) (names : List Name) (ps : List ℕ) (span : Span) (xs : List NodeRef) (v : Verdict) (m : ℕ) → 2 ≤ length xs → ArityIs v a b span (codes "(,)") 1 (length xs) → OnlyFaults a b → MakesUnknown b d m → DenotesParentheses a d names ps (place_of span) (numbers xs) m
several_unknown a b d names ps span [] v m le is rest made = absurd (omega arith)
several_unknown a b d names ps span (x ∷ []) v m le is rest made = absurd (omega arith)
several_unknown a b d names ps span (x ∷ y ∷ zs) v m le is rest made =
    several_inside a b d names ps x.0 y.0 span (numbers zs) v m (subst (λ k. ArityIs v a b span (codes "(,)") 1 k) (sym (many_numbers (x ∷ y ∷ zs))) is) rest made

-- a parameter that is found has its number's node, and where there is none the name has no number
abbrev HasNode : List ℕ → ℕ → Option NodeRef → Option ℕ → Type 0
HasNode ms k None o = o ≡ None
HasNode ms k (Some m) o = (i : ℕ) × (o ≡ Some (k + i)) × (slice_get ms i ≡ Some m.0)

has_node : (n : Name) (ps : List Parameter) (k : ℕ) → HasNode (items.nodes_of ps) k (parameter_in n ps) (index_from k n (names_of ps))
has_node n [] k = refl
has_node n (p ∷ ps) k = by (parameter_in n ps) (index_from (k + 1) n (names_of ps)) (bytes_eq (str_bytes p.name) n) (bytes_eq n (str_bytes p.name)) (names_turned (str_bytes p.name) n) (has_node n ps (k + 1))
  where
    by : (x : Option NodeRef) (o : Option ℕ) (b c : Bool) → b ≡ c → HasNode (items.nodes_of ps) (k + 1) x o → HasNode (items.nodes_of (p ∷ ps)) k (option_or x (if b then Some p.node else None)) (elim o [ Some i ↦ Some i | None ↦ if c then Some k else None ])
    by (Some m) (Some i) b c e (j, h, there) = (suc j, h ∙ ap (λ z. Some z) (let f : (k + 1) + j ≡ k + suc j = omega arith in f), there)
    by (Some m) None b c e (j, h, there) = absurd (cc)
    by None (Some i) b c e h = absurd (cc)
    by None None true true e h = (zero, ap (λ z. Some z) (let f : k ≡ k + 0 = omega arith in f), refl)
    by None None false false e h = refl
    by None None true false e h = absurd (cc)
    by None None false true e h = absurd (cc)

-- a parameter that is found, by its number
pub record IsNumbered (n : Name) (names : List Name) (ms : List ℕ) (m : ℕ) : Type 0 where
  pub number : ℕ
  pub found : index_from 0 n names ≡ Some number
  pub there : slice_get ms number ≡ Some m

pub parameter_numbered : (n : Name) (ps : List Parameter) (m : NodeRef) → parameter_in n ps ≡ Some m → IsNumbered n (names_of ps) (items.nodes_of ps) m.0
parameter_numbered n ps m e =
    let (i, f, g) = subst (λ x. HasNode (items.nodes_of ps) 0 x (index_from 0 n (names_of ps))) e (has_node n ps 0) in
    record { number = i; found = f ∙ ap (λ z. Some z) (let h : 0 + i ≡ i = omega arith in h); there = g }

-- an arrow over two types
pub pair_denotes : (a b : Parts) (xs : List NodeRef) (d e : NodeRef) (m : ℕ) → true ≡ (length xs == 2) → (IsNode a.store.nodes (get_or xs 0 d).0 → IsNode a.store.nodes (get_or xs 1 e).0 → Makes a.store b.store m (Arrow (get_or xs 0 d).0 (get_or xs 1 e).0)) → OnlyStore a b → MakesArrow a b (numbers xs) m
pair_denotes a b [] d e m two made rest = tt
pair_denotes a b (x ∷ []) d e m two made rest = tt
pair_denotes a b (x ∷ y ∷ []) d e m two made rest = (made, rest)
pair_denotes a b (x ∷ y ∷ z ∷ zs) d e m two made rest = tt

-- of another number of types nothing is said
pub no_pair_denotes : (a b : Parts) (xs : List NodeRef) (m : ℕ) → false ≡ (length xs == 2) → MakesArrow a b (numbers xs) m
no_pair_denotes a b [] m two = tt
no_pair_denotes a b (x ∷ []) m two = tt
no_pair_denotes a b (x ∷ y ∷ []) m two = absurd (cc)
no_pair_denotes a b (x ∷ y ∷ z ∷ zs) m two = tt
