-- Rows of patterns as the code matches them: what its calls carry, and then the record of the row's type.
use Rattle.std.proofs.Common.{◌≡◌, ◌∙◌, ◌++◌, ℕ, Bool, true, false, List, [], ◌∷◌, Option, Some, None, refl, sym, ap, subst, append-nil}
use Rattle.std.specs.Prelude.{All, slice_get}
use denote.Ref.{Bor}
use Rattle.std.specs.List.{flat_map}
use Rattle.token_model.specs.Kinds.{Tok}
use Rattle.tree_model.specs.Rows.{pname_row, pany_row, pconst_row, pneg_row, pcon_row, pparen_row, plist_row, pcons_row, ptuple_row, por_row, pas_row}
use Rattle.tree_model.specs.Slots.{is_operand, operand_slots}
use Rattle.tree_model.specs.Trees.{Place, Tree, inner}
use Rattle.signature_model.specs.Declarations.{Name}
use Rattle.syntax_tree.specs.View.{place_of, node_view}
use Rattle.syntax_tree.specs.declared.tree.Node.{Node}
use Rattle.row_parts.specs.declared.slots.Operand.{Operand}
use Rattle.row_parts.specs.Numbered.{Numbered, numbered, operand_view, part_of, operands_in, all_operands, first_in, filled_in, token_in, path_in}
use Rattle.typing_model.specs.Parts.{Pattern}
use Rattle.typing_model.specs.BuiltIns.{constant}
use Rattle.typing_model.specs.Patterns.{pname, pas, por, all_mentions}
use Rattle.type_terms.specs.declared.types.NodeRef.{NodeRef}
use Rattle.type_nodes.specs.Nodes.{Tuple, IsNode}
use Rattle.type_nodes.specs.Changes.{Makes}
use Rattle.env_table.specs.declared.entries.Entry.{Entry}
use Rattle.env_table.specs.declared.seen.Seen.{Seen}
use Rattle.typing_state.specs.declared.parts.Parts.{Parts}
use Rattle.typing_state.specs.Goes.{Goes, OnlyStore, OnlyIndex}
use Rattle.typing_state.specs.Notes.{Noted, NotedNameless}
use Rattle.typing_state.proofs.Going.{goes_trans}
use Rattle.typing_steps.specs.Building.{TypesConstructor}
use Rattle.typing_steps.specs.Typing.{TypesAny}
use Rattle.typing_steps.proofs.Rows.{var_any}
use Rattle.operand_laws.specs.Formed.{row_of, is_needed, may_repeat, IsFormed}
use Rattle.operand_laws.specs.Operands.{number_of, pattern_of, type_of, path_of}
use Rattle.operand_laws.proofs.SlotBySlot.{all_in_order, exactly_one}
use Rattle.operand_laws.proofs.Standing.{pattern_of_stands}
use Rattle.typing_rows.proofs.Terms.{two_operands}
use Rattle.typing_rows.specs.CarriedRows.{sort_in}
use Rattle.typing_rows.specs.Operands.{IsTypeOperand, Annotates}
use Rattle.typing_rows.proofs.Placed.{first_operand}
use Rattle.pattern_rows.specs.Bounds.{Bind, Adds}
use Rattle.pattern_rows.specs.CarriedPatterns.{IsCarriedPattern, MatchesOperand, MatchesNode, MatchesNodeOf, MatchesOperands, MatchesBeside}
use Rattle.pattern_rows.specs.Contracts.{row_pattern, patterns_of, Matches, MatchesRow, AsksFresh, MatchesInOrder, EndsPatterns, list_asks, cons_asks}
use Rattle.pattern_rows.specs.Named.{NotesAny, NotesRow, BindsNameIf}
use Rattle.pattern_rows.specs.Sides.{Side, MatchesSides, AsksLater}
use Rattle.pattern_rows.proofs.Beside.{or_row, or_row_typed}
use Rattle.pattern_rows.proofs.Going.{slot_patterns, row_patterns}
use Rattle.pattern_rows.proofs.Leaves.{named_row, nameless_row, name_row_typed, any_row_typed, constant_row_typed, minus_row_typed, con_row_typed}
use Rattle.pattern_rows.proofs.Listed.{list_typed}
use Rattle.pattern_rows.proofs.Naming.{adds_none, adds_both}
use Rattle.pattern_rows.proofs.Recorded.{node_matched, nameless_matched, node_matches, missing_matches}
use Rattle.pattern_rows.proofs.Terms.{name_term, any_term, constant_term, minus_term, con_term, paren_term, written_term, list_term, cons_term, tuple_term, or_term, as_term}
use Rattle.pattern_rows.proofs.Typed.{over_row, paren_typed, written_typed, tuple_typed, as_typed, as_nameless, as_row_typed, as_operand}

-- a row that is recorded with its type and without names of its own
pub row_matches : (a d e : Parts) (env : List Entry) (number : ℕ) (place : Place) (t : Tree) (ty : NodeRef) (names more added : List Bind) (seen then : List Name) → MatchesRow a d env (row_pattern a.item number place t) seen added (number_of a.item number) ty.0 →
    Adds names more added seen then (row_pattern a.item number place t).mentions → Goes a d → NotedNameless d e number env (Some ty) → OnlyIndex d e → Matches a e env (pattern_of a.item (numbered number place (inner t))) names more seen then ty.0
row_matches a d e env number place t ty names more added seen then row adds goes noted rest = node_matches a e env number place t names more added seen then ty.0 adds (nameless_matched a d e env number place t ty seen added row goes noted rest)

-- names that are added by a row in another form
pub adds_as : {names more added : List Bind} {seen then : List Name} (p q : Pattern) → q ≡ p → Adds names more added seen then p.mentions → Adds names more added seen then q.mentions
adds_as {names} {more} {added} {seen} {then} p q e adds = subst (λ r. Adds names more added seen then r.mentions) (sym e) adds

-- a pattern that is missing
pub nothing_matches : (a e : Parts) (env : List Entry) (o : Operand) (ty : NodeRef) (names : List Bind) (seen : List Name) → o.node ≡ None → NotesAny a e env o.number ty → MatchesOperand a e env (operand_view o) names names seen seen ty.0
nothing_matches a e env o ty names seen none x carried = missing_matches a x.between e env o ty names seen none x.made x.only x.goes x.noted x.rest

-- _
pub any_matches : (a e : Parts) (env : List Entry) (number : ℕ) (t : Tree) (ty : NodeRef) (names : List Bind) (seen : List Name) → NotesAny a e env number ty → MatchesNodeOf pany_row a e env number t names names seen seen ty.0
any_matches a e env number t ty names seen x row place carried =
    row_matches a x.between e env number place t ty names names [] seen seen (any_row_typed a x.between env a.item number place t seen ty.0 row (var_any a x.between x.made x.only))
    (adds_as _ _ (any_term a.item number place t row) (adds_none names seen)) x.goes x.noted x.rest

-- 1, "a", true
pub constant_matches : (a e : Parts) (env : List Entry) (number : ℕ) (t : Tree) (ty : NodeRef) (names : List Bind) (seen : List Name) → NotesRow a e env number (λ n. constant false n (token_in t 0)) ty → MatchesNodeOf pconst_row a e env number t names names seen seen ty.0
constant_matches a e env number t ty names seen x row place carried =
    row_matches a x.between e env number place t ty names names [] seen seen (constant_row_typed a x.between env a.item number place t seen ty.0 row (x.typed (number_of a.item number)))
    (adds_as _ _ (constant_term a.item number place t row) (adds_none names seen)) x.goes x.noted x.rest

-- - 1
pub minus_matches : (a e : Parts) (env : List Entry) (number : ℕ) (t : Tree) (ty : NodeRef) (names : List Bind) (seen : List Name) → NotesRow a e env number (λ n. constant true n (token_in t 1)) ty → MatchesNodeOf pneg_row a e env number t names names seen seen ty.0
minus_matches a e env number t ty names seen x row place carried =
    row_matches a x.between e env number place t ty names names [] seen seen (minus_row_typed a x.between env a.item number place t seen ty.0 row (x.typed (number_of a.item number)))
    (adds_as _ _ (minus_term a.item number place t row) (adds_none names seen)) x.goes x.noted x.rest

-- A
pub con_matches : (a b e : Parts) (env : List Entry) (number : ℕ) (t : Tree) (ty : NodeRef) (known : Bool) (argument : Option ℕ) (recorded : Seen) (names : List Bind) (seen : List Name) → recorded.ty ≡ Some ty → recorded.env ≡ env → TypesConstructor a b env (path_of (path_in t 0 1)) 0 known ty.0 argument → Goes a b →
    Noted b.telling b e number recorded → OnlyIndex b e → MatchesNodeOf pcon_row a e env number t names names seen seen ty.0
con_matches a b e env number t ty known argument recorded names seen has_type in_scope typed goes noted rest row place carried =
    node_matches a e env number place t names names [] seen seen ty.0 (adds_as _ _ (con_term a.item number place t row) (adds_none names seen))
    (node_matched a b e env number place t ty recorded seen [] has_type in_scope (con_row_typed a b env a.item number place t seen known ty.0 argument row typed) goes noted rest)

-- x
pub name_matches : (a b e : Parts) (env : List Entry) (number : ℕ) (t : Tree) (ty : NodeRef) (names more : List Bind) (seen then : List Name) → TypesAny a b ty.0 → Goes a b → BindsNameIf (token_in t 0) b e env number ty names more seen then →
    MatchesNodeOf pname_row a e env number t names more seen then ty.0
name_matches a b e env number t ty names more seen then any goes bound row place carried = by (token_in t 0) refl bound
  where
    n : ℕ
    n = number_of a.item number

    as_name : (d : Parts) (added : List Bind) (o : Option Tok) → token_in t 0 ≡ o → MatchesRow a d env (pname n place o) seen added n ty.0 → MatchesRow a d env (row_pattern a.item number place t) seen added n ty.0
    as_name d added o is h = name_row_typed a d env a.item number place t seen added ty.0 row (subst (λ q. MatchesRow a d env (pname n place q) seen added n ty.0) (sym is) h)

    same : (o : Option Tok) → token_in t 0 ≡ o → row_pattern a.item number place t ≡ pname n place o
    same o is = name_term a.item number place t row ∙ ap (pname n place) is

    by : (o : Option Tok) → token_in t 0 ≡ o → BindsNameIf o b e env number ty names more seen then → Matches a e env (pattern_of a.item (numbered number place (inner t))) names more seen then ty.0
    by None is x = row_matches a b e env number place t ty names more [] seen then (as_name b [] None is (nameless_row a b env n place ty.0 seen any)) (adds_as _ _ (same None is) x.adds) goes x.noted x.rest
    by (Some w) is x =
        let one : List Bind = record { token = w; node = ty; entry = x.entry } ∷ [] in
        node_matches a e env number place t names more one seen then ty.0 (adds_as _ _ (same (Some w) is) x.adds)
        (node_matched a x.between e env number place t ty x.recorded seen one x.has_type x.in_scope (as_name x.between one (Some w) is (named_row a b x.between env n place w ty x.entry seen any goes x.fresh x.is_entry)) (goes_trans a b x.between goes x.goes) x.noted x.rest)

-- p, p
pub tuple_matches : (a b d e : Parts) (env : List Entry) (number : ℕ) (t : Tree) (ty : NodeRef) (names more : List Bind) (seen then : List Name) (ms : List ℕ) → MatchesOperands a b env (all_operands number t) names more seen then ms → Goes a b →
    (All (IsNode b.store.nodes) ms → Makes b.store d.store ty.0 (Tuple ms)) → OnlyStore b d → Goes b d → NotedNameless d e number env (Some ty) → OnlyIndex d e → MatchesNodeOf ptuple_row a e env number t names more seen then ty.0
tuple_matches a b d e env number t ty names more seen then ms matched goes made only on noted rest row place carried =
    let all = matched (row_patterns number place t (λ s. ap (λ r. sort_in r s) row) carried) in
    row_matches a d e env number place t ty names more all.added seen then (tuple_typed a b d env a.item number place t seen all.added ms ty.0 carried.formed row goes all.typed made only)
    (adds_as _ _ (tuple_term a.item number place t carried.formed row) all.adds) (goes_trans a b d goes on) noted rest

-- [ p; p ]
pub list_matches : (a b d e : Parts) (env : List Entry) (number : ℕ) (t : Tree) (ty : NodeRef) (names more : List Bind) (seen then : List Name) (ms : List ℕ) → MatchesOperands a b env (operands_in number t 1) names more seen then ms → Goes a b →
    EndsPatterns b d env (list_asks (patterns_of b.item (operands_in number t 1))) (patterns_of b.item (operands_in number t 1)) ms ty.0 → Goes b d → NotedNameless d e number env (Some ty) → OnlyIndex d e → MatchesNodeOf plist_row a e env number t names more seen then ty.0
list_matches a b d e env number t ty names more seen then ms matched goes ends on noted rest row place carried =
    let os = operands_in number t 1 in
    let all = matched (slot_patterns number place t 1 (ap (λ r. sort_in r 1) row) carried) in
    row_matches a d e env number place t ty names more all.added seen then
    (list_typed a b d env a.item number place t seen all.added ms ty.0 carried.formed row goes all.typed (subst (λ i. EndsPatterns b d env (list_asks (patterns_of i os)) (patterns_of i os) ms ty.0) goes.item ends))
    (adds_as _ _ (list_term a.item number place t carried.formed row) all.adds) (goes_trans a b d goes on) noted rest

-- p :: p
pub cons_matches : (a b d e : Parts) (env : List Entry) (number : ℕ) (t : Tree) (ty : NodeRef) (names more : List Bind) (seen then : List Name) (ms : List ℕ) → MatchesOperands a b env (all_operands number t) names more seen then ms → Goes a b →
    ((o p : Numbered) → all_operands number t ≡ o ∷ p ∷ [] → EndsPatterns b d env (cons_asks (pattern_of b.item o) (pattern_of b.item p)) (pattern_of b.item o ∷ pattern_of b.item p ∷ []) ms ty.0) → Goes b d → NotedNameless d e number env (Some ty) → OnlyIndex d e →
    MatchesNodeOf pcons_row a e env number t names more seen then ty.0
unfolding is_operand is_needed may_repeat
cons_matches a b d e env number t ty names more seen then ms matched goes ends on noted rest row place carried =
    let n = number_of a.item number in
    let x = filled_in number t 0 in
    let y = filled_in number t 2 in
    let p = pattern_of a.item x in
    let q = pattern_of a.item y in
    let two : all_operands number t ≡ x ∷ y ∷ [] = two_operands number t pcons_row 0 2 carried.formed row refl refl refl refl refl refl refl in
    let term = cons_term a.item number place t carried.formed row in
    let all : MatchesInOrder a b env (p ∷ q ∷ []) names more seen then ms = subst (λ os. MatchesInOrder a b env (patterns_of a.item os) names more seen then ms) two (matched (row_patterns number place t (λ s. ap (λ r. sort_in r s) row) carried)) in
    let end = subst (λ i. EndsPatterns b d env (cons_asks (pattern_of i x) (pattern_of i y)) (pattern_of i x ∷ pattern_of i y ∷ []) ms ty.0) goes.item (ends x y two) in
    row_matches a d e env number place t ty names more all.added seen then
    (subst (λ r. MatchesRow a d env r seen all.added n ty.0) (sym term) (over_row a b d env n place (p ∷ q ∷ []) seen all.added ms ty.0 (cons_asks p q) all.typed goes end))
    (adds_as _ _ term all.adds) (goes_trans a b d goes on) noted rest

-- ( p )
pub paren_matches : (a b d e : Parts) (env : List Entry) (number : ℕ) (t : Tree) (ty : NodeRef) (names more : List Bind) (seen then : List Name) (ms : List ℕ) → first_in number t 3 ≡ None → MatchesOperands a b env (operands_in number t 1) names more seen then ms → Goes a b →
    ((o : Numbered) (os : List Numbered) → operands_in number t 1 ≡ o ∷ os → (slice_get ms 0 ≡ Some ty.0) × (d ≡ b)) → NotedNameless d e number env (Some ty) → OnlyIndex d e → MatchesNodeOf pparen_row a e env number t names more seen then ty.0
unfolding is_operand is_needed may_repeat
paren_matches a b d e env number t ty names more seen then ms none matched goes first noted rest row place carried =
    let n = number_of a.item number in
    let x = filled_in number t 1 in
    let alone : operands_in number t 1 ≡ x ∷ [] = exactly_one number t 1 carried.formed (ap (λ q. is_operand q 1) row) (ap (λ q. is_needed q 1) row) (ap (λ q. may_repeat q 1) row) in
    let same = first x [] alone in
    let all = matched (slot_patterns number place t 1 (ap (λ r. sort_in r 1) row) carried) in
    row_matches a d e env number place t ty names more all.added seen then
    (subst (λ s. MatchesRow a s env (row_pattern a.item number place t) seen all.added n ty.0) (sym same.1) (paren_typed a b env a.item number place t seen all.added ms ty.0 carried.formed row none goes all.typed same.0))
    (adds_as _ _ (paren_term a.item number place t carried.formed row none) (subst (λ os. Adds names more all.added seen then (all_mentions (patterns_of a.item os))) alone all.adds)) (subst (Goes a) (sym same.1) goes) noted rest

-- ( p : t ), where the first of the parts is asked to have the written type
pub written_matches : (a b d e : Parts) (env : List Entry) (number : ℕ) (t : Tree) (w : Numbered) (ty : NodeRef) (names more : List Bind) (seen then : List Name) (ms : List ℕ) → first_in number t 3 ≡ Some w → MatchesOperands a b env (operands_in number t 1) names more seen then ms → Goes a b →
    ((o : Numbered) (os : List Numbered) → operands_in number t 1 ≡ o ∷ os → (found : ℕ) × (slice_get ms 0 ≡ Some found) × (IsTypeOperand w → Annotates b d env (type_of b.item w) o.at found ty.0)) → Goes b d → NotedNameless d e number env (Some ty) → OnlyIndex d e →
    MatchesNodeOf pparen_row a e env number t names more seen then ty.0
unfolding is_operand is_needed may_repeat
written_matches a b d e env number t w ty names more seen then ms some matched goes asked on noted rest row place carried =
    let x = filled_in number t 1 in
    let alone : operands_in number t 1 ≡ x ∷ [] = exactly_one number t 1 carried.formed (ap (λ q. is_operand q 1) row) (ap (λ q. is_needed q 1) row) (ap (λ q. may_repeat q 1) row) in
    let all = matched (slot_patterns number place t 1 (ap (λ r. sort_in r 1) row) carried) in
    let (found, node, annotates) = asked x [] alone in
    let written = subst (λ i. Annotates b d env (type_of i w) x.at found ty.0) goes.item (annotates (first_operand number t 3 w carried.formed some)) in
    row_matches a d e env number place t ty names more all.added seen then
    (written_typed a b d env a.item number place x.at t w seen all.added ms found ty.0 carried.formed row some goes all.typed node (pattern_of_stands a.item x).where_it_is written)
    (adds_as _ _ (written_term a.item number place t w carried.formed row some) (subst (λ os. Adds names more all.added seen then (all_mentions (patterns_of a.item os))) alone all.adds)) (goes_trans a b d goes on) noted rest

-- p as x
pub as_matches : (a b d e : Parts) (env : List Entry) (number : ℕ) (t : Tree) (ty : NodeRef) (names more last : List Bind) (seen then later : List Name) (ms : List ℕ) → MatchesOperands a b env (all_operands number t) names more seen then ms → Goes a b →
    ((o : Numbered) (os : List Numbered) → all_operands number t ≡ o ∷ os → (slice_get ms 0 ≡ Some ty.0) × (d ≡ b)) → BindsNameIf (token_in t 2) d e env number ty more last then later → MatchesNodeOf pas_row a e env number t names last seen later ty.0
as_matches a b d e env number t ty names more last seen then later ms matched goes first bound row place carried =
    by (token_in t 2) refl (subst (λ s. BindsNameIf (token_in t 2) s e env number ty more last then later) same.1 bound)
  where
    n : ℕ
    n = number_of a.item number

    x : Numbered
    x = filled_in number t 0

    p : Pattern
    p = pattern_of a.item x

    alone : all_operands number t ≡ x ∷ []
    alone = as_operand number t carried.formed row

    same : (slice_get ms 0 ≡ Some ty.0) × (d ≡ b)
    same = first x [] alone

    all : MatchesInOrder a b env (p ∷ []) names more seen then ms
    all = subst (λ os. MatchesInOrder a b env (patterns_of a.item os) names more seen then ms) alone (matched (row_patterns number place t (λ s. ap (λ r. sort_in r s) row) carried))

    adds : Adds names more all.added seen then p.mentions
    adds = subst (λ ns. Adds names more all.added seen then ns) (append-nil p.mentions) all.adds

    as_name : (s : Parts) (added : List Bind) (o : Option Tok) → token_in t 2 ≡ o → MatchesRow a s env (pas n place p o) seen added n ty.0 → MatchesRow a s env (row_pattern a.item number place t) seen added n ty.0
    as_name s added o is h = as_row_typed a s env a.item number place t seen added ty.0 carried.formed row (subst (λ q. MatchesRow a s env (pas n place p q) seen added n ty.0) (sym is) h)

    term : (o : Option Tok) → token_in t 2 ≡ o → row_pattern a.item number place t ≡ pas n place p o
    term o is = as_term a.item number place t carried.formed row ∙ ap (pas n place p) is

    by : (o : Option Tok) → token_in t 2 ≡ o → BindsNameIf o b e env number ty more last then later → Matches a e env (pattern_of a.item (numbered number place (inner t))) names last seen later ty.0
    by None is y =
        let whole = adds_both all.adds y.adds in
        row_matches a b e env number place t ty names last all.added seen later (as_name b all.added None is (as_nameless a b env n place p seen all.added ms ty.0 all.typed same.0 goes))
        (adds_as _ _ (term None is) (subst (λ ns. Adds names last all.added seen later ns) (append-nil (all_mentions (p ∷ []))) (subst (λ bs. Adds names last bs seen later (all_mentions (p ∷ []) ++ [])) (append-nil all.added) whole))) goes y.noted y.rest
    by (Some w) is y =
        let one : List Bind = record { token = w; node = ty; entry = y.entry } ∷ [] in
        node_matches a e env number place t names last (all.added ++ one) seen later ty.0 (adds_as _ _ (term (Some w) is) (adds_both adds y.adds))
        (node_matched a y.between e env number place t ty y.recorded seen (all.added ++ one) y.has_type y.in_scope
        (as_name y.between (all.added ++ one) (Some w) is (as_typed a b y.between env n place p w ty y.entry seen all.added ms all.typed same.0 goes (subst (λ ns. AsksFresh b y.between w ns) adds.sees y.fresh) y.is_entry))
        (goes_trans a b y.between goes y.goes) y.noted y.rest)

-- the sides of p | p
or_operands : (n : ℕ) (t : Tree) → IsFormed n t → row_of t ≡ por_row → all_operands n t ≡ filled_in n t 0 ∷ operands_in n t 2
unfolding is_operand is_needed may_repeat
or_operands n t formed row =
    all_in_order n t formed ∙ ap (λ q. flat_map (operands_in n t) (operand_slots q)) row ∙
    ap (λ os. os ++ (operands_in n t 2 ++ [])) (exactly_one n t 0 formed (ap (λ q. is_operand q 0) row) (ap (λ q. is_needed q 0) row) (ap (λ q. may_repeat q 0) row)) ∙
    ap (λ os. filled_in n t 0 ∷ os) (append-nil (operands_in n t 2))

-- What comes of the sides of p | p, whose operands these are: a first one and others, which are asked beside it, and whose names are bound.
pub record SidesCompared (b d : Parts) (env : List Entry) (os : List Numbered) (sides : List Side) (m : ℕ) (names more : List Bind) : Type 0 where
  pub first : Side
  pub rest : List Side
  pub split : sides ≡ first ∷ rest
  pub asked : (o : Numbered) (others : List Numbered) → os ≡ o ∷ others → AsksLater b d env first rest (patterns_of b.item others)
  pub node : first.node ≡ m
  pub bound : more ≡ names ++ first.names

-- p | p
pub or_matches : (a b d e : Parts) (env : List Entry) (number : ℕ) (t : Tree) (ty : NodeRef) (names more : List Bind) (seen then : List Name) (sides : List Side) → MatchesBeside a b env (all_operands number t) seen then sides → Goes a b →
    ((o : Numbered) (os : List Numbered) → all_operands number t ≡ o ∷ os → SidesCompared b d env (all_operands number t) sides ty.0 names more) → Goes b d → NotedNameless d e number env (Some ty) → OnlyIndex d e → MatchesNodeOf por_row a e env number t names more seen then ty.0
or_matches a b d e env number t ty names more seen then sides matched goes compared on noted rest row place carried =
    let n = number_of a.item number in
    let x = filled_in number t 0 in
    let others = operands_in number t 2 in
    let p = pattern_of a.item x in
    let qs = patterns_of a.item others in
    let cut : all_operands number t ≡ x ∷ others = or_operands number t carried.formed row in
    let all : MatchesSides a b env (p ∷ qs) seen sides × (then ≡ seen ++ all_mentions (p ∷ qs)) = subst (λ os. MatchesSides a b env (patterns_of a.item os) seen sides × (then ≡ seen ++ all_mentions (patterns_of a.item os))) cut (matched (row_patterns number place t (λ s. ap (λ r. sort_in r s) row) carried)) in
    let h = compared x others cut in
    let asked : AsksLater b d env h.first h.rest qs = subst (λ i. AsksLater b d env h.first h.rest (patterns_of i others)) goes.item (h.asked x others cut) in
    let term = or_term a.item number place t carried.formed row in
    let here : MatchesRow a d env (row_pattern a.item number place t) seen h.first.names n ty.0 =
    or_row_typed a d env a.item number place t seen h.first.names ty.0 carried.formed row (subst (MatchesRow a d env (por n place p qs) seen h.first.names n) h.node
    (or_row a b d env n place p qs seen h.first h.rest (subst (MatchesSides a b env (p ∷ qs) seen) h.split all.0) goes asked)) in
    row_matches a d e env number place t ty names more h.first.names seen then here (adds_as _ _ term (record { binds = h.bound; sees = all.1 })) (goes_trans a b d goes on) noted rest

-- a pattern that is there, by its node
pub operand_matches : (a b : Parts) (env : List Entry) (o : Operand) (nd : Bor Node) (names more : List Bind) (seen then : List Name) (m : ℕ) → o.node ≡ Some nd → MatchesNode a b env o.number (node_view nd.now) names more seen then m → MatchesOperand a b env (operand_view o) names more seen then m
operand_matches a b env o nd names more seen then m there matched carried =
    let same : numbered o.number (place_of o.span) (inner (node_view nd.now)) ≡ operand_view o = ap (λ x. numbered o.number (place_of o.span) (part_of x o.span)) (sym there) in
    subst (λ x. Matches a b env (pattern_of a.item x) names more seen then m) same (matched (place_of o.span) (subst IsCarriedPattern (sym same) carried))
