-- What functions of type expressions carry, by what their calls do.
use Rattle.std.proofs.Common.{◌≡◌, ◌∙◌, ◌++◌, ◌+◌, ◌<◌, ◌≤◌, ℕ, zero, suc, List, [], ◌∷◌, length, map, drop, get_or, ◌==◌, true, false, Some, None, refl, sym, ap, subst, arith}
use Rattle.std.specs.Prelude.{All, Option, slice_index_or, codes}
use Rattle.std.proofs.lemmas.List.{drop_more}
use Rattle.std.proofs.lemmas.List.Elements.{All-nil, All-head, All-tail}
use Rattle.tree_model.specs.Rows.{Row, tvar_row, tcon_row, tparen_row, tapp_row, ttuple_row, tarrow_row}
use Rattle.tree_model.specs.Trees.{Place, Tree, Part, node, taken, inner, missing}
use denote.Ref.{Bor}
use Rattle.syntax_tree.specs.View.{place_of, node_view}
use Rattle.syntax_tree.specs.declared.tree.Node.{Node, out-Node}
use Rattle.syntax_tree.specs.declared.rows.RowName.{RowName}
use Rattle.syntax_tree.specs.declared.rows.RowName.TheVariants as name
use Rattle.syntax_tree.specs.Names as names
use Rattle.text_terms.specs.declared.Span.{Span}
use Rattle.row_parts.specs.declared.slots.Operand.{Operand}
use Rattle.row_parts.specs.Numbered.{Numbered, numbered, operands_in, filled_in, operand_view, part_of}
use Rattle.typing_model.specs.Demands.{site}
use Rattle.typing_model.specs.Contexts.{Context, tell}
use Rattle.typing_model.specs.TypeExpressions.{read_all, nodes_of}
use Rattle.type_terms.specs.declared.types.NodeRef.{NodeRef}
use Rattle.type_nodes.specs.Views.{numbers}
use Rattle.type_nodes.specs.Nodes.{Arrow, IsNode}
use Rattle.type_nodes.specs.Changes.{Makes}
use Rattle.env_table.specs.declared.entries.Entry.{Entry}
use Rattle.env_table.specs.declared.seen.Seen.{Seen}
use Rattle.typing_state.specs.declared.parts.Parts.{Parts}
use Rattle.typing_state.specs.Goes.{Goes, OnlyStore, OnlyIndex, OnlyFaults}
use Rattle.typing_state.specs.declared.demands.Verdict.{Verdict}
use Rattle.typing_state.specs.Demands.{ArityIs}
use Rattle.typing_state.specs.Notes.{Noted, NotedNameless}
use Rattle.typing_state.specs.Types.{MakesVar, any_scope}
use Rattle.typing_conditions.proofs.Carried.{carried_trans, carried_as, done_as, done_then, done_last}
use Rattle.typing_conditions.specs.Sights.{own, number_in}
use Rattle.typing_conditions.proofs.Meaning.{means_on}
use Rattle.typing_conditions.proofs.Surrounding.{surrounds_on, surrounds_sees, sees_on}
use Rattle.typing_steps.specs.States.{is_aloud}
use Rattle.typing_steps.specs.Typing.{AsksEqual}
use Rattle.typing_steps.proofs.Still.{plain_noted}
use Rattle.operand_laws.specs.Formed.{row_of, IsPartFormed, IsFormed}
use Rattle.operand_laws.specs.Operands.{number_of, type_of}
use Rattle.operand_laws.proofs.Standing.{type_of_stands}
use Rattle.typing_rows.specs.TypeContracts.{ReadsTo, ReadsAll, ReadsFirst, EndsRead}
use Rattle.typing_rows.specs.Rows.{row_type, types_read, front_nodes, front_asks, end_asks}
use Rattle.typing_rows.specs.Operands.{IsTypeOperand, part_asks, ReadsOperand, ReadsPart, ReadsOperands, ReadsGiven, ReadsFront, EndsRow, ReadsVariable, EndsParentheses, MakesArrowOver, Annotates}
use Rattle.typing_rows.proofs.Reading.{unresolved_reads, noted_reads, row_reads, reads_to_as}
use Rattle.typing_rows.proofs.TypeOrdered.{one_read, alone_read}
use Rattle.typing_rows.proofs.Composed.{ends_empty, ends_single, ends_several}
use Rattle.typing_rows.proofs.TypeTerms.{TypeRow, a_variable, a_constructor, in_parentheses, an_application, a_tuple, an_arrow, another, type_row_is, IsNoType, node_term}
use Rattle.typing_rows.proofs.Ended.{view_row}
use Rattle.typing_rows.proofs.Placed.{slot_operands, row_operands, filled_operand}
use Rattle.typing_rows.proofs.TypeGiven.{IsAlone, node_alone, few_alone, alone_given, several_given}
use Rattle.type_expressions.proofs.Answering.{many_numbers}
use Rattle.type_expressions.specs.Operands.{parts_by_row, parts_read, several, several_in_part, several_in_row, at_least_two}

-- what a part asks is what it asks as an operand
pub part_read : (i n : ℕ) (at : Place) (p : Part) (c : Context) → IsPartFormed n p → tell (number_of i n) c ++ part_asks i n at p c ≡ (type_of i (numbered n at p)).read c
part_read i n at (taken t) c formed = refl
part_read i n at (inner t) c formed = node_term i n at t formed c
part_read i n at (missing q) c formed = refl

-- a type expression, once its node is recorded
pub operand_reads : (a b d : Parts) (env : List Entry) (o : Operand) (m : ℕ) (seen : Seen) → Goes a b → ReadsPart a b env o.number (place_of o.span) (part_of o.node o.span) m → seen.ty ≡ None → seen.env ≡ env → Noted b.telling b d o.number seen → OnlyIndex b d → ReadsOperand a d env (operand_view o) m
operand_reads a b d env o m seen goes read none in_scope noted rest operand =
    let n = number_of a.item o.number in
    let asks : Context → List _ = λ c. part_asks a.item o.number (place_of o.span) (part_of o.node o.span) c in
    subst (λ k. ReadsTo a d env (λ c. (type_of a.item (operand_view o)).read c) k m) (sym (type_of_stands a.item (operand_view o)).number)
    (reads_to_as a d env (λ c. tell n c ++ asks c) (λ c. (type_of a.item (operand_view o)).read c) n m (λ c. part_read a.item o.number (place_of o.span) (part_of o.node o.span) c operand.formed)
    (noted_reads a b d env asks n m o.number seen none in_scope (ap (λ i. number_in i o.number) goes.item) goes (read operand.formed operand.placed) noted rest))

-- a type expression that is missing
pub missing_reads : (a b : Parts) (env : List Entry) (o : Operand) (m : ℕ) → o.node ≡ None → MakesVar a b m any_scope → OnlyStore a b → ReadsPart a b env o.number (place_of o.span) (part_of o.node o.span) m
missing_reads a b env o m none made rest =
    subst (λ (x : Option (Bor Node)). ReadsPart a b env o.number (place_of o.span) (part_of x o.span) m) (sym none) (λ formed placed. unresolved_reads a b env (number_of a.item o.number) m made rest)

-- a node: its parts, and then its end
pub node_reads : (a b d : Parts) (env : List Entry) (o : Operand) (nd : Bor Node) (ms : List ℕ) (m : ℕ) → o.node ≡ Some nd → ReadsFront a b env o.number (node_view nd.now) ms → Goes a b → EndsRow b d env (node_view nd.now) ms m →
    ReadsPart a d env o.number (place_of o.span) (part_of o.node o.span) m
node_reads a b d env o nd ms m there front goes ends = subst (λ (x : Option (Bor Node)). ReadsPart a d env o.number (place_of o.span) (part_of x o.span) m) (sym there) (λ formed placed.
    let t = node_view nd.now in
    let end = subst (λ i. EndsRead b d env (λ c. end_asks (row_of t) i o.number (place_of o.span) t c) (front_nodes (row_of t) i o.number t) ms (number_of i o.number) m) goes.item (ends o.number (place_of o.span) formed placed) in
    row_reads a b d env (λ c. front_asks (row_of t) a.item o.number t c) (λ c. end_asks (row_of t) a.item o.number (place_of o.span) t c) (front_nodes (row_of t) a.item o.number t) ms (number_of a.item o.number) m (front formed) goes end)

-- what stands in front of a constructor is all that is read there
pub app_front : (a b : Parts) (env : List Entry) (n : ℕ) (t : Tree) (ms : List ℕ) → row_of t ≡ tapp_row → ReadsGiven a b env (filled_in n t 0) ms → ReadsFront a b env n t ms
app_front a b env n t ms row given formed =
    subst (λ r. ReadsAll a b env (λ c. front_asks r a.item n t c) (front_nodes r a.item n t) ms) (sym row) (given (filled_operand n t 0 formed))

-- of another row its operands are
pub other_front : (a b : Parts) (env : List Entry) (n : ℕ) (t : Tree) (ms : List ℕ) → (row_of t ≡ tapp_row → ⊥) → ReadsOperands a b env (parts_read n t) ms → ReadsFront a b env n t ms
unfolding parts_by_row
other_front a b env n (node r x ps) ms other read formed = by r other read
  where
    t : Tree
    t = node r x ps

    by : (q : Row) → (q ≡ tapp_row → ⊥) → ReadsOperands a b env (parts_by_row q n t) ms → ReadsAll a b env (λ c. front_asks q a.item n t c) (front_nodes q a.item n t) ms
    by tparen_row o h = h (slot_operands n t 1 formed)
    by tapp_row o h = absurd (o refl)
    by ttuple_row o h = h (row_operands n t formed)
    by tarrow_row o h = h (row_operands n t formed)
    by _ o h = h (All-nil IsTypeOperand)

-- a row that isn't of type expressions has no several types in it
not_several : (r : Row) (os : List Numbered) → IsNoType r → several_in_row r os ≡ None
not_several tparen_row os h = absurd h
not_several _ os h = refl

-- a type expression that isn't several in parentheses is given in front of a constructor as itself
pub alone_operand : (i : ℕ) (o : Numbered) → several o ≡ None → IsPartFormed o.number o.part → IsAlone (type_of i o)
alone_operand i o = is_alone o.part
  where
    few : (os : List Numbered) → at_least_two os ≡ None → (x y : Numbered) (us : List Numbered) → os ≡ x ∷ y ∷ us → ⊥
    few os e x y us f = let g : at_least_two (x ∷ y ∷ us) ≡ None = ap at_least_two (sym f) ∙ e in cc

    in_node : (t : Tree) → several_in_row (row_of t) (operands_in o.number t 1) ≡ None → IsFormed o.number t → IsAlone (type_of i (numbered o.number o.at (inner t)))
    in_node t e formed = alone_given i o.number o.at t (by (type_row_is (row_of t)))
      where
        by : TypeRow (row_of t) → IsAlone (row_type i o.number o.at t)
        by (in_parentheses row) = few_alone i o.number o.at t formed row (few (operands_in o.number t 1) (sym (ap (λ r. several_in_row r (operands_in o.number t 1)) row) ∙ e))
        by (a_variable row) = node_alone i o.number o.at t (λ g. let f : tvar_row ≡ tparen_row = sym row ∙ g in cc)
        by (a_constructor row) = node_alone i o.number o.at t (λ g. let f : tcon_row ≡ tparen_row = sym row ∙ g in cc)
        by (an_application row) = node_alone i o.number o.at t (λ g. let f : tapp_row ≡ tparen_row = sym row ∙ g in cc)
        by (a_tuple row) = node_alone i o.number o.at t (λ g. let f : ttuple_row ≡ tparen_row = sym row ∙ g in cc)
        by (an_arrow row) = node_alone i o.number o.at t (λ g. let f : tarrow_row ≡ tparen_row = sym row ∙ g in cc)
        by (another h) = node_alone i o.number o.at t (λ g. subst IsNoType g h)

    is_alone : (p : Part) → several_in_part o.number p ≡ None → IsPartFormed o.number p → IsAlone (type_of i (numbered o.number o.at p))
    is_alone (taken t) e formed = record { grouped = refl; read = λ c. refl }
    is_alone (inner (node r x ps)) e formed = in_node (node r x ps) e formed
    is_alone (missing q) e formed = record { grouped = refl; read = λ c. refl }

-- one type expression alone in front of a constructor
pub alone_reads : (a b : Parts) (env : List Entry) (o : Numbered) (m : ℕ) → several o ≡ None → ReadsOperand a b env o m → ReadsGiven a b env o (m ∷ [])
alone_reads a b env o m none read operand =
    let alone = alone_operand a.item o none operand.formed in
    let one = alone_read a b env (λ c. (type_of a.item o).read c) (type_of a.item o).node m (read operand) in
    subst (λ ns. ReadsAll a b env (λ c. (type_of a.item o).grouped_read c) ns (m ∷ [])) (sym alone.grouped) (λ aloud F scope G s.
    let x = one aloud F scope G s in record { letters = x.letters; carried = carried_as (λ c. sym (alone.read c)) x.carried; done = done_as (λ c. sym (alone.read c)) x.carried x.done; means = x.means })

-- several type expressions in parentheses are given in front of a constructor one by one
pub record SeveralGiven (i : ℕ) (o : Numbered) (os : List Numbered) : Type 0 where
  pub operands : All IsTypeOperand os
  pub nodes : (type_of i o).grouped ≡ nodes_of (types_read i os)
  pub asks : (c : Context) → (type_of i o).grouped_read c ≡ tell (number_of i o.number) c ++ read_all c (types_read i os)

-- so they are where the code finds several
pub several_operand : (i : ℕ) (o : Numbered) (os : List Numbered) → several o ≡ Some os → IsPartFormed o.number o.part → SeveralGiven i o os
several_operand i o os = by o.part
  where
    in_node : (t : Tree) → several_in_row (row_of t) (operands_in o.number t 1) ≡ Some os → IsFormed o.number t → SeveralGiven i (numbered o.number o.at (inner t)) os
    in_node t e formed = at_row (type_row_is (row_of t))
      where
        split : (us : List Numbered) → operands_in o.number t 1 ≡ us → at_least_two us ≡ Some os → row_of t ≡ tparen_row → SeveralGiven i (numbered o.number o.at (inner t)) os
        split [] f g row = absurd (cc)
        split (x ∷ []) f g row = absurd (cc)
        split (x ∷ y ∷ zs) f g row =
            let h = several_given i o.number o.at t x y zs formed row f in
            subst (SeveralGiven i (numbered o.number o.at (inner t))) (let q : x ∷ y ∷ zs ≡ os = cc in q) (record { operands = subst (All IsTypeOperand) f (slot_operands o.number t 1 formed); nodes = h.0; asks = h.1 })

        none : (r : Row) → several_in_row r (operands_in o.number t 1) ≡ None → row_of t ≡ r → ⊥
        none r f row = let h : None ≡ Some os = sym f ∙ sym (ap (λ r. several_in_row r (operands_in o.number t 1)) row) ∙ e in cc

        at_row : TypeRow (row_of t) → SeveralGiven i (numbered o.number o.at (inner t)) os
        at_row (in_parentheses row) = split (operands_in o.number t 1) refl (sym (ap (λ r. several_in_row r (operands_in o.number t 1)) row) ∙ e) row
        at_row (a_variable row) = absurd (none tvar_row refl row)
        at_row (a_constructor row) = absurd (none tcon_row refl row)
        at_row (an_application row) = absurd (none tapp_row refl row)
        at_row (a_tuple row) = absurd (none ttuple_row refl row)
        at_row (an_arrow row) = absurd (none tarrow_row refl row)
        at_row (another h) = absurd (none (row_of t) (not_several (row_of t) (operands_in o.number t 1) h) refl)

    by : (p : Part) → several_in_part o.number p ≡ Some os → IsPartFormed o.number p → SeveralGiven i (numbered o.number o.at p) os
    by (taken t) e formed = absurd (cc)
    by (inner (node r x ps)) e formed = in_node (node r x ps) e formed
    by (missing q) e formed = absurd (cc)

-- several type expressions in parentheses in front of a constructor, once their node is recorded
pub several_reads : (a b d : Parts) (env : List Entry) (o : Numbered) (os : List Numbered) (ms : List ℕ) → several o ≡ Some os → NotedNameless a b o.number env None → OnlyIndex a b → Goes a b → ReadsOperands b d env os ms → ReadsGiven a d env o ms
several_reads a b d env o os ms some noted only goes read operand =
    let h = several_operand a.item o os some operand.formed in
    let all = subst (λ i. ReadsAll b d env (λ c. read_all c (types_read i os)) (nodes_of (types_read i os)) ms) goes.item (read h.operands) in
    subst (λ ns. ReadsAll a d env (λ c. (type_of a.item o).grouped_read c) ns ms) (sym h.nodes) (λ aloud F scope G s.
    let first = plain_noted a b {F = F} {scope = scope} {G = G} o.number env (number_of a.item o.number) refl aloud noted only (surrounds_sees s) in
    let z = all (first.stays.aloud ∙ aloud) F scope G (surrounds_on first.stays s) in
    let both = carried_trans first z.carried in
    record { letters = z.letters; carried = carried_as (λ c. sym (h.asks c)) both; done = done_as (λ c. sym (h.asks c)) both (done_last first z.carried z.done); means = z.means })

-- the numbers of nodes and one more
pub numbers_more : (ms : List NodeRef) (m : NodeRef) → numbers (ms ++ m ∷ []) ≡ numbers ms ++ m.0 ∷ []
numbers_more [] m = refl
numbers_more (k ∷ ms) m = ap (λ ns. k.0 ∷ ns) (numbers_more ms m)

-- the operand at a place is one of a type expression where all are
pub operand_there : (os : List Operand) (i : ℕ) (x : Operand) → i < length os → x ≡ slice_index_or os i x → All IsTypeOperand (map operand_view os) → IsTypeOperand (operand_view x)
operand_there [] i x lt e all = absurd (omega arith)
operand_there (o ∷ os) zero x lt e all = subst (λ z. IsTypeOperand (operand_view z)) (sym e) (All-head IsTypeOperand (operand_view o) (map operand_view os) all)
operand_there (o ∷ os) (suc i) x lt e all = operand_there os i x (omega arith) e (All-tail IsTypeOperand (operand_view o) (map operand_view os) all)

-- one type expression more was read in a loop
pub each_read : (a b d : Parts) (env : List Entry) (os : List Operand) (i : ℕ) (x : Operand) (ms new : List NodeRef) (m : NodeRef) → i < length os → x ≡ slice_index_or os i x → new ≡ ms ++ m ∷ [] → All IsTypeOperand (map operand_view os) →
    ReadsFirst a b env (types_read a.item (map operand_view os)) (types_read a.item (map operand_view (drop i os))) (numbers ms) → Goes a b → ReadsOperand b d env (operand_view x) m.0 →
    ReadsFirst a d env (types_read a.item (map operand_view os)) (types_read a.item (map operand_view (drop (i + 1) os))) (numbers new)
each_read a b d env os i x ms new m lt here pushed all first goes read =
    let cut : drop i os ≡ x ∷ drop (i + 1) os = drop_more os i x lt ∙ ap (λ o. o ∷ drop (i + 1) os) (sym here) in
    let one = subst (λ k. ReadsTo b d env (λ c. (type_of k (operand_view x)).read c) (type_of k (operand_view x)).node m.0) goes.item (read (operand_there os i x lt here all)) in
    subst (ReadsFirst a d env (types_read a.item (map operand_view os)) (types_read a.item (map operand_view (drop (i + 1) os)))) (sym (ap numbers pushed ∙ numbers_more ms m))
    (one_read a b d env (types_read a.item (map operand_view os)) (types_read a.item (map operand_view (drop (i + 1) os))) (type_of a.item (operand_view x)) (numbers ms) m.0
    (subst (λ us. ReadsFirst a b env (types_read a.item (map operand_view os)) (types_read a.item (map operand_view us)) (numbers ms)) cut first) goes one)

-- the row of a node, by that of the code
pub var_row : (nd : Node) → (out-Node nd).row ≡ name.Tvar → row_of (node_view nd) ≡ tvar_row
unfolding names.row_of
var_row nd e = view_row nd name.Tvar e

pub con_row : (nd : Node) → (out-Node nd).row ≡ name.Tcon → row_of (node_view nd) ≡ tcon_row
unfolding names.row_of
con_row nd e = view_row nd name.Tcon e

pub paren_row : (nd : Node) → (out-Node nd).row ≡ name.Tparen → row_of (node_view nd) ≡ tparen_row
unfolding names.row_of
paren_row nd e = view_row nd name.Tparen e

pub tuple_row : (nd : Node) → (out-Node nd).row ≡ name.Ttuple → row_of (node_view nd) ≡ ttuple_row
unfolding names.row_of
tuple_row nd e = view_row nd name.Ttuple e

pub arrow_row : (nd : Node) → (out-Node nd).row ≡ name.Tarrow → row_of (node_view nd) ≡ tarrow_row
unfolding names.row_of
arrow_row nd e = view_row nd name.Tarrow e

pub app_row : (nd : Node) → (out-Node nd).row ≡ name.Tapp → row_of (node_view nd) ≡ tapp_row
unfolding names.row_of
app_row nd e = view_row nd name.Tapp e

only_app : (r : RowName) → names.row_of r ≡ tapp_row → r ≡ name.Tapp
unfolding names.row_of
only_app name.Tapp e = refl
only_app _ e = absurd (cc)

-- another row of the code is another row
pub not_app_row : (nd : Node) → ((out-Node nd).row ≡ name.Tapp → ⊥) → row_of (node_view nd) ≡ tapp_row → ⊥
not_app_row nd other e = other (only_app (out-Node nd).row (sym (view_row nd (out-Node nd).row refl) ∙ e))

-- a type variable that is missing
pub missing_variable : (a b : Parts) (m : ℕ) → MakesVar a b m any_scope → OnlyStore a b → ReadsVariable a b None m
missing_variable a b m made rest env n at = unresolved_reads a b env n m made rest

-- several types in parentheses, where there are at least two
pub several_end : (a b d : Parts) (m : ℕ) (span : Span) (xs : List NodeRef) (v : Verdict) → 2 ≤ length xs → ArityIs v a b span (codes "(,)") 1 (length xs) → OnlyFaults a b → MakesVar b d m any_scope → OnlyStore b d → EndsParentheses a d (place_of span) (numbers xs) m
several_end a b d m span [] v le is only made rest = absurd (omega arith)
several_end a b d m span (x ∷ []) v le is only made rest = absurd (omega arith)
several_end a b d m span (x ∷ y ∷ zs) v le is only made rest =
    ends_several a b d m x.0 y.0 span (numbers zs) v (subst (λ k. ArityIs v a b span (codes "(,)") 1 k) (sym (many_numbers (x ∷ y ∷ zs))) is) only made rest

-- a part that has the type which is written behind it
pub annotated : (a b d : Parts) (env : List Entry) (o : Numbered) (place : Place) (found m : ℕ) → ReadsOperand a b env o m → Goes a b → AsksEqual b d env place found m → IsTypeOperand o → Annotates a d env (type_of a.item o) place found m
annotated a b d env o place found m read goes asked operand = λ aloud F scope G n k is its s has.
    let w = type_of a.item o in
    let x = read operand aloud F scope G s in
    let y = asked (ap is_aloud goes.telling ∙ aloud) F scope ((own w.node, m) ∷ G) (site n k) is (λ ch. ch.type_at w.node) its (sees_on scope x.carried.stays s.reached (surrounds_sees s)) (means_on x.carried.stays has) x.means in
    record { carried = carried_trans x.carried y; means = means_on y.stays x.means; done = done_then x.carried y x.done }

-- parentheses around nothing
pub empty_end : (a b : Parts) (at : Place) (m : ℕ) (xs : List NodeRef) → length xs < 1 → MakesVar a b m any_scope → OnlyStore a b → EndsParentheses a b at (numbers xs) m
empty_end a b at m [] lt made rest = ends_empty a b at m made rest
empty_end a b at m (x ∷ xs) lt made rest = absurd (omega arith)

-- one type in parentheses
pub single_end : (a : Parts) (at : Place) (xs : List NodeRef) (d : NodeRef) → 1 ≤ length xs → length xs < 2 → EndsParentheses a a at (numbers xs) (get_or xs 0 d).0
single_end a at [] d le lt = absurd (omega arith)
single_end a at (x ∷ []) d le lt = ends_single a at x.0
single_end a at (x ∷ y ∷ ys) d le lt = absurd (omega arith)

-- an arrow over two types
pub pair_made : (a b : Parts) (xs : List NodeRef) (d e : NodeRef) (m : ℕ) → true ≡ (length xs == 2) → (IsNode a.store.nodes (get_or xs 0 d).0 → IsNode a.store.nodes (get_or xs 1 e).0 → Makes a.store b.store m (Arrow (get_or xs 0 d).0 (get_or xs 1 e).0)) → OnlyStore a b → MakesArrowOver a b (numbers xs) m
pair_made a b [] d e m two made rest = tt
pair_made a b (x ∷ []) d e m two made rest = tt
pair_made a b (x ∷ y ∷ []) d e m two made rest = (made, rest)
pair_made a b (x ∷ y ∷ z ∷ zs) d e m two made rest = tt

-- of fewer or more types nothing is said
pub no_pair : (a b : Parts) (xs : List NodeRef) (m : ℕ) → false ≡ (length xs == 2) → MakesArrowOver a b (numbers xs) m
no_pair a b [] m other = tt
no_pair a b (x ∷ []) m other = tt
no_pair a b (x ∷ y ∷ []) m other = absurd (cc)
no_pair a b (x ∷ y ∷ z ∷ zs) m other = tt
