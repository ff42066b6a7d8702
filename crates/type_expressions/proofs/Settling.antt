-- What functions of type expressions settle in a declaration, by what their calls do.
use Rattle.std.proofs.Common.{◌≡◌, ◌∙◌, ◌++◌, ◌+◌, ◌<◌, ◌≤◌, ℕ, Bool, true, false, List, [], ◌∷◌, length, map, drop, Some, None, refl, sym, ap, subst, arith, if◌then◌else◌}
use Rattle.std.specs.Prelude.{All, Option, slice_index_or, codes}
use Rattle.std.specs.Option.{option_or}
use Rattle.std.specs.Str.{bytes_eq}
use Rattle.std.proofs.lemmas.List.{drop_more}
use Rattle.std.proofs.lemmas.List.Elements.{All-nil}
use Rattle.std.proofs.lemmas.Slice.Eq.{bytes_eq-Decides}
use Rattle.tree_model.specs.Rows.{Row, tparen_row, tapp_row, ttuple_row, tarrow_row}
use Rattle.tree_model.specs.Trees.{Place, Tree, node}
use denote.Ref.{Bor}
use Rattle.text_terms.specs.Bytes.{str_bytes}
use Rattle.text_terms.specs.declared.Span.{Span}
use Rattle.syntax_tree.specs.View.{place_of, node_view}
use Rattle.syntax_tree.specs.declared.tree.Node.{Node}
use Rattle.row_parts.specs.declared.slots.Operand.{Operand}
use Rattle.row_parts.specs.Numbered.{Numbered, operand_view, part_of, filled_in}
use Rattle.signature_model.specs.Declarations.{Name}
use Rattle.typing_model.specs.Contexts.{Context, tell}
use Rattle.typing_model.specs.Demands.{Condition}
use Rattle.typing_model.specs.TypeExpressions.{index_from, read_all, nodes_of}
use Rattle.type_terms.specs.declared.types.NodeRef.{NodeRef}
use Rattle.type_nodes.specs.Views.{numbers}
use Rattle.env_table.specs.declared.entries.Entry.{Entry}
use Rattle.typing_state.specs.declared.parts.Parts.{Parts}
use Rattle.typing_state.specs.declared.demands.Verdict.{Verdict}
use Rattle.typing_state.specs.Demands.{ArityIs}
use Rattle.typing_state.specs.Goes.{Goes, OnlyIndex, Silent}
use Rattle.typing_steps.specs.States.{is_aloud}
use Rattle.operand_laws.specs.Formed.{row_of}
use Rattle.operand_laws.specs.Operands.{number_of, type_of}
use Rattle.operand_laws.proofs.Standing.{type_of_stands}
use Rattle.typing_rows.specs.Rows.{types_read, front_nodes, front_asks, end_asks}
use Rattle.typing_rows.specs.Operands.{IsTypeOperand, part_asks}
use Rattle.typing_rows.proofs.Placed.{slot_operands, row_operands, filled_operand}
use Rattle.typing_rows.specs.Settled.{behind}
use Rattle.typing_rows.specs.DeclaredContracts.{SettlesTo, SettlesAll, SettlesFirst, SettlesEnd}
use Rattle.typing_rows.specs.DeclaredOperands.{SettlesOperand, SettlesPart, SettlesOperands, SettlesGiven, SettlesFront, SettlesRow, SettlesVariable, SettlesParentheses}
use Rattle.typing_rows.proofs.Settling.{settled_trans, settled_told}
use Rattle.typing_rows.proofs.DeclaredOrdered.{silent_reports, index_reports, all_here, unresolved_settles, noted_settles, row_settles, settles_as, one_settled, alone_settled}
use Rattle.typing_rows.proofs.DeclaredComposed.{ends_empty, ends_single, ends_several}
use Rattle.type_expressions.specs.declared.types.Parameter.{Parameter}
use Rattle.type_expressions.specs.Items.{names_of, parameter_in}
use Rattle.type_expressions.specs.Operands.{parts_by_row, parts_read, several}
use Rattle.type_expressions.proofs.Answering.{many_numbers}
use Rattle.type_expressions.proofs.Carrying.{part_read, alone_operand, several_operand, numbers_more, operand_there}

-- a type expression, once its node is recorded
pub operand_settles : (a b d : Parts) (env : List Entry) (names : List Name) (o : Operand) → SettlesPart a b env names o.number (place_of o.span) (part_of o.node o.span) → OnlyIndex b d → SettlesOperand a d env names (operand_view o)
operand_settles a b d env names o read rest operand =
    let n = number_of a.item o.number in
    let asks : Context → List Condition = λ c. part_asks a.item o.number (place_of o.span) (part_of o.node o.span) c in
    subst (λ k. SettlesTo a d env names (λ c. (type_of a.item (operand_view o)).read c) k) (sym (type_of_stands a.item (operand_view o)).number)
    (settles_as a d env names (λ c. tell n c ++ asks c) (λ c. (type_of a.item (operand_view o)).read c) n (λ c. part_read a.item o.number (place_of o.span) (part_of o.node o.span) c operand.formed)
    (noted_settles a b d env names asks n (read operand.formed operand.placed) rest))

-- a type expression that is missing
pub missing_settles : (a b : Parts) (env : List Entry) (names : List Name) (o : Operand) → o.node ≡ None → Silent a b → SettlesPart a b env names o.number (place_of o.span) (part_of o.node o.span)
missing_settles a b env names o none silent =
    subst (λ (x : Option (Bor Node)). SettlesPart a b env names o.number (place_of o.span) (part_of x o.span)) (sym none) (λ formed placed. unresolved_settles a b env names (number_of a.item o.number) (silent_reports a b silent))

-- a node: its parts, and then its end
pub node_settles : (a b d : Parts) (env : List Entry) (names : List Name) (o : Operand) (nd : Bor Node) (ms : List ℕ) → o.node ≡ Some nd → SettlesFront a b env names o.number (node_view nd.now) ms → Goes a b → SettlesRow b d env names (node_view nd.now) ms →
    SettlesPart a d env names o.number (place_of o.span) (part_of o.node o.span)
node_settles a b d env names o nd ms there front goes ends = subst (λ (x : Option (Bor Node)). SettlesPart a d env names o.number (place_of o.span) (part_of x o.span)) (sym there) (λ formed placed.
    let t = node_view nd.now in
    let end = subst (λ i. SettlesEnd b d env names (λ c. end_asks (row_of t) i o.number (place_of o.span) t c) (front_nodes (row_of t) i o.number t) ms (number_of i o.number)) goes.item (ends o.number (place_of o.span) formed placed) in
    row_settles a b d env names (λ c. front_asks (row_of t) a.item o.number t c) (λ c. end_asks (row_of t) a.item o.number (place_of o.span) t c) (front_nodes (row_of t) a.item o.number t) ms (number_of a.item o.number) (front formed) goes end)

-- what stands in front of a constructor is all that is read there
pub app_settles : (a b : Parts) (env : List Entry) (names : List Name) (n : ℕ) (t : Tree) (ms : List ℕ) → row_of t ≡ tapp_row → SettlesGiven a b env names (filled_in n t 0) ms → SettlesFront a b env names n t ms
app_settles a b env names n t ms row given formed =
    subst (λ r. SettlesAll a b env names (λ c. front_asks r a.item n t c) (front_nodes r a.item n t) ms) (sym row) (given (filled_operand n t 0 formed))

-- of another row its operands are
pub other_settles : (a b : Parts) (env : List Entry) (names : List Name) (n : ℕ) (t : Tree) (ms : List ℕ) → (row_of t ≡ tapp_row → ⊥) → SettlesOperands a b env names (parts_read n t) ms → SettlesFront a b env names n t ms
unfolding parts_by_row
other_settles a b env names n (node r x ps) ms other read formed = by r other read
  where
    t : Tree
    t = node r x ps

    by : (q : Row) → (q ≡ tapp_row → ⊥) → SettlesOperands a b env names (parts_by_row q n t) ms → SettlesAll a b env names (λ c. front_asks q a.item n t c) (front_nodes q a.item n t) ms
    by tparen_row o h = h (slot_operands n t 1 formed)
    by tapp_row o h = absurd (o refl)
    by ttuple_row o h = h (row_operands n t formed)
    by tarrow_row o h = h (row_operands n t formed)
    by _ o h = h (All-nil IsTypeOperand)

-- one type expression alone in front of a constructor
pub alone_settles : (a b : Parts) (env : List Entry) (names : List Name) (o : Numbered) (m : ℕ) → several o ≡ None → SettlesOperand a b env names o → SettlesGiven a b env names o (m ∷ [])
alone_settles a b env names o m none read operand =
    let alone = alone_operand a.item o none operand.formed in
    let one = alone_settled a b env names (λ c. (type_of a.item o).read c) (type_of a.item o).node m (read operand) in
    subst (λ ns. SettlesAll a b env names (λ c. (type_of a.item o).grouped_read c) ns (m ∷ [])) (sym alone.grouped) (λ aloud B around. all_here (λ c h. sym (alone.read c)) (one aloud B around))

-- several type expressions in parentheses in front of a constructor, once their node is recorded
pub several_settles : (a b d : Parts) (env : List Entry) (names : List Name) (o : Numbered) (os : List Numbered) (ms : List ℕ) → several o ≡ Some os → OnlyIndex a b → Goes a b → SettlesOperands b d env names os ms → SettlesGiven a d env names o ms
several_settles a b d env names o os ms some only goes read operand =
    let h = several_operand a.item o os some operand.formed in
    let all = subst (λ i. SettlesAll b d env names (λ c. read_all c (types_read i os)) (nodes_of (types_read i os)) ms) goes.item (read h.operands) in
    subst (λ ns. SettlesAll a d env names (λ c. (type_of a.item o).grouped_read c) ns ms) (sym h.nodes) (λ aloud B around.
    let x = all (ap is_aloud goes.telling ∙ aloud) (behind B [] []) around in
    all_here (λ c k. sym (h.asks c)) (record {
      judged = x.judged;
      told = x.told;
      fixes = x.fixes;
      types = x.types;
      reports = x.reports ∙ ap (λ rs. rs ++ x.told) (index_reports a b only);
      settled = settled_trans (settled_told (number_of a.item o.number)) x.settled;
      gives = x.gives;
      many = x.many;
    }))

-- one type expression more was read in a loop
pub each_settles : (a b d : Parts) (env : List Entry) (names : List Name) (os : List Operand) (i : ℕ) (x : Operand) (ms new : List NodeRef) (m : NodeRef) → i < length os → x ≡ slice_index_or os i x → new ≡ ms ++ m ∷ [] → All IsTypeOperand (map operand_view os) →
    SettlesFirst a b env names (types_read a.item (map operand_view os)) (types_read a.item (map operand_view (drop i os))) (numbers ms) → Goes a b → SettlesOperand b d env names (operand_view x) →
    SettlesFirst a d env names (types_read a.item (map operand_view os)) (types_read a.item (map operand_view (drop (i + 1) os))) (numbers new)
each_settles a b d env names os i x ms new m lt here pushed all first goes read =
    let cut : drop i os ≡ x ∷ drop (i + 1) os = drop_more os i x lt ∙ ap (λ o. o ∷ drop (i + 1) os) (sym here) in
    let one = subst (λ k. SettlesTo b d env names (λ c. (type_of k (operand_view x)).read c) (type_of k (operand_view x)).node) goes.item (read (operand_there os i x lt here all)) in
    subst (SettlesFirst a d env names (types_read a.item (map operand_view os)) (types_read a.item (map operand_view (drop (i + 1) os)))) (sym (ap numbers pushed ∙ numbers_more ms m))
    (one_settled a b d env names (types_read a.item (map operand_view os)) (types_read a.item (map operand_view (drop (i + 1) os))) (type_of a.item (operand_view x)) (numbers ms) m.0
    (subst (λ us. SettlesFirst a b env names (types_read a.item (map operand_view os)) (types_read a.item (map operand_view us)) (numbers ms)) cut first) goes one)

-- a type variable that is missing
pub missing_variable : (a b : Parts) (names : List Name) → Silent a b → SettlesVariable a b names None
missing_variable a b names silent env n at = unresolved_settles a b env names n (silent_reports a b silent)

-- parentheses around nothing
pub empty_settles : (a b : Parts) (names : List Name) (at : Place) (xs : List NodeRef) → length xs < 1 → SettlesParentheses a b names at (numbers xs)
empty_settles a b names at [] lt = ends_empty a b names at
empty_settles a b names at (x ∷ xs) lt = absurd (omega arith)

-- one type in parentheses
pub single_settles : (a : Parts) (names : List Name) (at : Place) (xs : List NodeRef) → 1 ≤ length xs → length xs < 2 → SettlesParentheses a a names at (numbers xs)
single_settles a names at [] le lt = absurd (omega arith)
single_settles a names at (x ∷ []) le lt = ends_single a names at x.0
single_settles a names at (x ∷ y ∷ ys) le lt = absurd (omega arith)

-- several types in parentheses
pub several_ends : (a b d : Parts) (names : List Name) (span : Span) (xs : List NodeRef) (v : Verdict) → 2 ≤ length xs → ArityIs v a b span (codes "(,)") 1 (length xs) → Silent b d → SettlesParentheses a d names (place_of span) (numbers xs)
several_ends a b d names span [] v le is silent = absurd (omega arith)
several_ends a b d names span (x ∷ []) v le is silent = absurd (omega arith)
several_ends a b d names span (x ∷ y ∷ zs) v le is silent =
    ends_several a b d names x.0 y.0 span (numbers zs) v (subst (λ k. ArityIs v a b span (codes "(,)") 1 k) (sym (many_numbers (x ∷ y ∷ zs))) is) (silent_reports b d silent)

-- whether two names are one doesn't depend on which of them comes first
pub names_turned : (x y : List ℕ) → bytes_eq x y ≡ bytes_eq y x
names_turned x y = by (bytes_eq x y) (bytes_eq y x) (bytes_eq-Decides x y).0 (bytes_eq-Decides x y).1 (bytes_eq-Decides y x).0 (bytes_eq-Decides y x).1
  where
    by : (b c : Bool) → (b ≡ true → x ≡ y) → (x ≡ y → b ≡ true) → (c ≡ true → y ≡ x) → (y ≡ x → c ≡ true) → b ≡ c
    by true true p q r s = refl
    by false false p q r s = refl
    by true false p q r s = sym (s (sym (p refl)))
    by false true p q r s = q (sym (r refl))

-- a parameter of a name has a number, and where there is none the name has none
abbrev HasNumber : Option NodeRef → Option ℕ → Type 0
HasNumber None o = o ≡ None
HasNumber (Some m) o = (i : ℕ) × (o ≡ Some i)

has_number : (n : Name) (ps : List Parameter) (k : ℕ) → HasNumber (parameter_in n ps) (index_from k n (names_of ps))
has_number n [] k = refl
has_number n (p ∷ ps) k = by (parameter_in n ps) (index_from (k + 1) n (names_of ps)) (bytes_eq (str_bytes p.name) n) (bytes_eq n (str_bytes p.name)) (names_turned (str_bytes p.name) n) (has_number n ps (k + 1))
  where
    by : (x : Option NodeRef) (o : Option ℕ) (b c : Bool) → b ≡ c → HasNumber x o → HasNumber (option_or x (if b then Some p.node else None)) (elim o [ Some i ↦ Some i | None ↦ if c then Some k else None ])
    by (Some m) (Some i) b c e h = (i, refl)
    by (Some m) None b c e h = absurd (let f : None ≡ Some h.0 = h.1 in cc)
    by None (Some i) b c e h = absurd (cc)
    by None None true true e h = (k, refl)
    by None None false false e h = refl
    by None None true false e h = absurd (cc)
    by None None false true e h = absurd (cc)

-- a parameter that is found has a number among the names
pub number_known : (n : Name) (ps : List Parameter) (m : NodeRef) → parameter_in n ps ≡ Some m → (i : ℕ) × (index_from 0 n (names_of ps) ≡ Some i)
number_known n ps m e = subst (λ x. HasNumber x (index_from 0 n (names_of ps))) e (has_number n ps 0)

-- and one that isn't has none
pub number_none : (n : Name) (ps : List Parameter) → parameter_in n ps ≡ None → index_from 0 n (names_of ps) ≡ None
number_none n ps e = subst (λ x. HasNumber x (index_from 0 n (names_of ps))) e (has_number n ps 0)

-- no parameter was found before the first
pub first_parameter : (n : Name) (ps : List Parameter) → option_or (parameter_in n ps) None ≡ parameter_in n ps
first_parameter n ps = by (parameter_in n ps)
  where
    by : (x : Option NodeRef) → option_or x None ≡ x
    by (Some m) = refl
    by None = refl

-- one parameter more was looked at: of two of one name the later one is found
pub next_parameter : (n : Name) (ps : List Parameter) (i : ℕ) (p : Parameter) (before after : Option NodeRef) → i < length ps → p ≡ slice_index_or ps i p → (if bytes_eq (str_bytes p.name) n then Some p.node else before) ≡ after → option_or (parameter_in n (drop i ps)) before ≡ parameter_in n ps →
    option_or (parameter_in n (drop (i + 1) ps)) after ≡ parameter_in n ps
next_parameter n ps i p before after lt here is found =
    let cut : drop i ps ≡ p ∷ drop (i + 1) ps = drop_more ps i p lt ∙ ap (λ q. q ∷ drop (i + 1) ps) (sym here) in
    ap (option_or (parameter_in n (drop (i + 1) ps))) (sym is) ∙ by (parameter_in n (drop (i + 1) ps)) (bytes_eq (str_bytes p.name) n) ∙ ap (λ qs. option_or (parameter_in n qs) before) (sym cut) ∙ found
  where
    by : (x : Option NodeRef) (b : Bool) → option_or x (if b then Some p.node else before) ≡ option_or (option_or x (if b then Some p.node else None)) before
    by (Some m) b = refl
    by None true = refl
    by None false = refl
