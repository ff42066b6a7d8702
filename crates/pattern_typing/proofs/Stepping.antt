-- What patterns carry as they are matched one after the other, and what is asked behind them.
use Rattle.std.proofs.Common.{◌≡◌, ◌∙◌, ◌++◌, ◌+◌, ◌<◌, ℕ, zero, suc, List, [], ◌∷◌, length, map, take, drop, Option, Some, None, refl, sym, ap, subst, arith, append_assoc, append-nil}
use Rattle.std.specs.Prelude.{All, slice_get, slice_index_or, codes}
use Rattle.std.proofs.lemmas.List.Elements.{All-head, All-tail}
use denote.Ref.{Bor}
use Rattle.tree_model.specs.Rows.{pparen_row}
use Rattle.tree_model.specs.Trees.{Tree}
use Rattle.signature_model.specs.Declarations.{Name}
use Rattle.syntax_tree.specs.View.{place_of}
use Rattle.syntax_tree.specs.declared.tree.Token.{Token}
use Rattle.row_parts.specs.declared.slots.Operand.{Operand}
use Rattle.row_parts.specs.Numbered.{Numbered, operand_view, operands_in, first_in}
use Rattle.typing_model.specs.Parts.{Pattern}
use Rattle.typing_model.specs.Patterns.{all_mentions}
use Rattle.type_terms.specs.declared.types.NodeRef.{NodeRef}
use Rattle.type_nodes.specs.Nodes.{Con, IsNode}
use Rattle.type_nodes.specs.Changes.{Makes}
use Rattle.use_typing.proofs.Reading.{drop_read}
use Rattle.env_table.specs.declared.entries.Entry.{Entry}
use Rattle.typing_state.specs.declared.parts.Parts.{Parts}
use Rattle.typing_state.specs.Goes.{Goes, OnlyStore, OnlyIndex}
use Rattle.typing_state.specs.Notes.{NotedNameless}
use Rattle.typing_state.specs.Types.{list_path}
use Rattle.typing_steps.specs.Typing.{AsksEqual, TypesAny}
use Rattle.operand_laws.specs.Operands.{pattern_of}
use Rattle.operand_laws.proofs.Standing.{pattern_of_stands}
use Rattle.pattern_rows.specs.Bounds.{Bind}
use Rattle.type_expressions.specs.Written.{AsksWritten}
use Rattle.pattern_rows.specs.CarriedPatterns.{IsCarriedPattern, MatchesOperand, MatchesOperands, MatchesNodeOf}
use Rattle.pattern_rows.specs.Contracts.{patterns_of, MatchesTo, Matches, InOrderFirst, EndsPatterns, AsksEach, AsksEachFirst, list_asks, cons_asks}
use Rattle.pattern_rows.specs.Sides as rules
use Rattle.pattern_rows.specs.Sides.{MatchesSides, MatchesSidesFirst, AsksName, AsksNamesFirst, AsksBeside, AsksLater, AsksLaterFirst}
use Rattle.pattern_rows.proofs.Beside.{sides_none, sides_more, sides_all, names_more, later_more}
use Rattle.pattern_rows.proofs.Listed.{equal_more, ends_list, ends_list_none}
use Rattle.pattern_rows.proofs.Matching.{SidesCompared, paren_matches, written_matches}
use Rattle.pattern_rows.proofs.Ordered.{in_order_more}
use Rattle.pattern_rows.proofs.Typed.{ends_cons}
use Rattle.pattern_typing.specs.Matching.{bind_of, binds_of, names_seen, nodes_of, parts_of_sides, side_of, typed_view, AsksFirst}
use Rattle.pattern_typing.specs.declared.patterns.BoundName.{BoundName}
use Rattle.pattern_typing.specs.declared.patterns.SideMatch.{SideMatch}
use Rattle.pattern_typing.specs.declared.patterns.TypedPart.{TypedPart}
use Rattle.pattern_typing.proofs.Carrying.{nodes_more, kept_names, moved_names, names_both}
use Rattle.pattern_typing.proofs.Carrying as code

-- an operand that is read from a list of carried ones
read_carried : (os : List Operand) (k : ℕ) (x : Operand) → k < length os → x ≡ slice_index_or os k x → All IsCarriedPattern (map operand_view os) → IsCarriedPattern (operand_view x)
read_carried [] k x lt e all = absurd (omega arith)
read_carried (o ∷ os) zero x lt e all = subst (λ z. IsCarriedPattern (operand_view z)) (sym e) (All-head IsCarriedPattern (operand_view o) (map operand_view os) all)
read_carried (o ∷ os) (suc k) x lt e all = read_carried os k x (omega arith) e (All-tail IsCarriedPattern (operand_view o) (map operand_view os) all)

-- operands as patterns
abbrev pub as_patterns : ℕ → List Operand → List Pattern
as_patterns i os = patterns_of i (map operand_view os)

-- one pattern more in order
pub order_step : (a b d : Parts) (env : List Entry) (all : List Operand) (i : ℕ) (x : Operand) (names some more : List BoundName) (seen now then : List (Bor Token)) (typed longer : List TypedPart) (ty : NodeRef) → i < length all → x ≡ slice_index_or all i x → longer ≡ typed ++ record { part = x; ty = ty } ∷ [] → Goes a b →
    (All IsCarriedPattern (map operand_view all) → InOrderFirst a b env (as_patterns a.item all) (as_patterns a.item (drop i all)) (binds_of names) (binds_of some) (names_seen seen) (names_seen now) (nodes_of typed)) →
    MatchesOperand b d env (operand_view x) (binds_of some) (binds_of more) (names_seen now) (names_seen then) ty.0 →
    All IsCarriedPattern (map operand_view all) → InOrderFirst a d env (as_patterns a.item all) (as_patterns a.item (drop (i + 1) all)) (binds_of names) (binds_of more) (names_seen seen) (names_seen then) (nodes_of longer)
order_step a b d env all i x names some more seen now then typed longer ty lt is grown goes first one carried =
    in_order_more a b d env (as_patterns a.item all) (as_patterns a.item (drop i all)) (as_patterns a.item (drop (i + 1) all)) (pattern_of a.item (operand_view x)) (binds_of names) (binds_of some) (binds_of more) (names_seen seen) (names_seen now) (names_seen then) (nodes_of typed) (nodes_of longer) ty.0
    (ap (as_patterns a.item) (drop_read all i x lt is)) (nodes_more typed longer (record { part = x; ty = ty }) grown) goes (first carried)
    (subst (λ k. Matches b d env (pattern_of k (operand_view x)) (binds_of some) (binds_of more) (names_seen now) (names_seen then) ty.0) goes.item (one (read_carried all i x lt is carried)))

-- what holds of the sides of an or-pattern in a loop: each is matched behind the names from before, and the names in them are kept apart
pub record BesideFirst (a b : Parts) (env : List Entry) (ps left : List Pattern) (seen now apart : List Name) (sides : List rules.Side) : Type 0 where
  pub matched : MatchesSidesFirst a b env ps left seen sides
  pub before : now ≡ seen
  pub mentioned : apart ++ all_mentions left ≡ all_mentions ps

-- one side more
pub beside_step : (a b d : Parts) (env : List Entry) (all : List Operand) (i : ℕ) (x : Operand) (seen now then last : List (Bor Token)) (apart more : List (Bor Token)) (sides longer : List SideMatch) (side : SideMatch) (before : ℕ) → i < length all → x ≡ slice_index_or all i x → longer ≡ sides ++ side ∷ [] → Goes a b →
    before ≡ length seen → last ≡ take before then → more ≡ apart ++ drop before then →
    (All IsCarriedPattern (map operand_view all) → BesideFirst a b env (as_patterns a.item all) (as_patterns a.item (drop i all)) (names_seen seen) (names_seen now) (names_seen apart) (map side_of sides)) →
    MatchesOperand b d env (operand_view x) [] (binds_of side.names.items) (names_seen now) (names_seen then) side.ty.0 →
    All IsCarriedPattern (map operand_view all) → BesideFirst a d env (as_patterns a.item all) (as_patterns a.item (drop (i + 1) all)) (names_seen seen) (names_seen last) (names_seen more) (map side_of longer)
beside_step a b d env all i x seen now then last apart more sides longer side before lt is grown goes len kept moved first one carried =
    let f = first carried in
    let p = pattern_of a.item (operand_view x) in
    let rest = as_patterns a.item (drop (i + 1) all) in
    let h = subst (λ k. Matches b d env (pattern_of k (operand_view x)) [] (binds_of side.names.items) (names_seen now) (names_seen then) side.ty.0) goes.item (one (read_carried all i x lt is carried)) in
    let split : as_patterns a.item (drop i all) ≡ p ∷ rest = ap (as_patterns a.item) (drop_read all i x lt is) in
    let sees : names_seen then ≡ names_seen seen ++ p.mentions = h.adds.sees ∙ ap (λ ns. ns ++ p.mentions) f.before in
    record {
      matched = sides_more a b d env (as_patterns a.item all) (as_patterns a.item (drop i all)) rest p (names_seen seen) (binds_of side.names.items) side.ty.0 (map side_of sides) (map side_of longer) split (code.sides_more sides longer side grown) goes f.matched
          (subst (λ ns. MatchesTo b d env p ns (binds_of side.names.items) side.ty.0) f.before (subst (λ bs. MatchesTo b d env p (names_seen now) bs side.ty.0) (sym h.adds.binds) h.typed));
      before = ap names_seen kept ∙ kept_names seen then before p.mentions len sees;
      mentioned = ap (λ ns. ns ++ all_mentions rest) (ap names_seen moved ∙ names_both apart (drop before then) ∙ ap (λ ns. names_seen apart ++ ns) (moved_names seen then before p.mentions len sees)) ∙
          append_assoc (names_seen apart) p.mentions (all_mentions rest) ∙ ap (λ ps. names_seen apart ++ all_mentions ps) (sym split) ∙ f.mentioned;
    }

-- one pattern more that has a type
pub equal_step : (a b d : Parts) (env : List Entry) (all : List TypedPart) (i : ℕ) (x : TypedPart) (wanted : ℕ) → i < length all → x ≡ slice_index_or all i x → Goes a b →
    AsksEachFirst a b env (patterns_of a.item (typed_view all)) (patterns_of a.item (typed_view (drop i all))) (nodes_of all) (nodes_of (drop i all)) wanted → AsksEqual b d env (place_of x.part.span) x.ty.0 wanted →
    AsksEachFirst a d env (patterns_of a.item (typed_view all)) (patterns_of a.item (typed_view (drop (i + 1) all))) (nodes_of all) (nodes_of (drop (i + 1) all)) wanted
equal_step a b d env all i x wanted lt is goes first asked =
    let cut = drop_read all i x lt is in
    let ps : List TypedPart → List Pattern = λ ts. patterns_of a.item (typed_view ts) in
    equal_more a b d env (ps all) (ps (drop i all)) (ps (drop (i + 1) all)) (pattern_of a.item (operand_view x.part)) (place_of x.part.span) (nodes_of all) (nodes_of (drop i all)) (nodes_of (drop (i + 1) all)) x.ty.0 wanted (ap ps cut) (ap nodes_of cut)
    (pattern_of_stands a.item (operand_view x.part)).where_it_is goes first asked

-- one name more of the first side
pub name_step : (a b d : Parts) (env : List Entry) (all : List BoundName) (i : ℕ) (x : BoundName) (later : List Bind) → i < length all → x ≡ slice_index_or all i x → Goes a b → AsksNamesFirst a b env (binds_of all) (binds_of (drop i all)) later → AsksName b d env (bind_of x) later →
    AsksNamesFirst a d env (binds_of all) (binds_of (drop (i + 1) all)) later
name_step a b d env all i x later lt is goes first one = names_more a b d env (binds_of all) (binds_of (drop i all)) (binds_of (drop (i + 1) all)) later (bind_of x) (ap binds_of (drop_read all i x lt is)) goes first one

-- one later side more
pub later_step : (a b d : Parts) (env : List Entry) (first : rules.Side) (all : List SideMatch) (k : ℕ) (x : SideMatch) (i : ℕ) → k < length all → x ≡ slice_index_or all k x → Goes a b →
    AsksLaterFirst a b env first (map side_of all) (map side_of (drop k all)) (patterns_of i (parts_of_sides all)) (patterns_of i (parts_of_sides (drop k all))) → AsksBeside b d env first (side_of x) (place_of x.part.span) →
    AsksLaterFirst a d env first (map side_of all) (map side_of (drop (k + 1) all)) (patterns_of i (parts_of_sides all)) (patterns_of i (parts_of_sides (drop (k + 1) all)))
later_step a b d env first all k x i lt is goes so_far one =
    let cut = drop_read all k x lt is in
    let ps : List SideMatch → List Pattern = λ ss. patterns_of i (parts_of_sides ss) in
    later_more a b d env first (side_of x) (map side_of all) (map side_of (drop k all)) (map side_of (drop (k + 1) all)) (ps all) (ps (drop k all)) (ps (drop (k + 1) all)) (pattern_of i (operand_view x.part)) (place_of x.part.span) (ap (map side_of) cut) (ap ps cut)
    (pattern_of_stands i (operand_view x.part)).where_it_is goes so_far one

-- two typed patterns
pub two_typed : (ts : List TypedPart) (x y : TypedPart) → length ts ≡ 2 → x ≡ slice_index_or ts 0 x → y ≡ slice_index_or ts 1 y → ts ≡ x ∷ y ∷ []
two_typed [] x y n e f = absurd (omega arith)
two_typed (a ∷ []) x y n e f = absurd (omega arith)
two_typed (a ∷ b ∷ []) x y n e f = (λ k. sym e k ∷ sym f k ∷ [])
two_typed (a ∷ b ∷ c ∷ ts) x y n e f = absurd (omega arith)

-- there are two, where two operands were typed
pub are_two : (ts : List TypedPart) (o p : Numbered) → typed_view ts ≡ o ∷ p ∷ [] → length ts ≡ 2
are_two [] o p e = absurd (cc)
are_two (a ∷ []) o p e = absurd (let tail : typed_view [] ≡ p ∷ [] = cc in cc)
are_two (a ∷ b ∷ []) o p e = refl
are_two (a ∷ b ∷ c ∷ ts) o p e = absurd (let tail : typed_view (b ∷ c ∷ ts) ≡ p ∷ [] = cc in let none : typed_view (c ∷ ts) ≡ [] = cc in cc)

-- the end of p :: p
pub cons_end : (a b d : Parts) (env : List Entry) (ts : List TypedPart) (x y : TypedPart) (m : ℕ) (o p : Numbered) → ts ≡ x ∷ y ∷ [] → typed_view ts ≡ o ∷ p ∷ [] → (IsNode a.store.nodes x.ty.0 → Makes a.store b.store m (Con list_path (codes "list") (x.ty.0 ∷ []))) → OnlyStore a b →
    AsksEqual b d env (place_of y.part.span) y.ty.0 m → EndsPatterns a d env (cons_asks (pattern_of a.item o) (pattern_of a.item p)) (pattern_of a.item o ∷ pattern_of a.item p ∷ []) (nodes_of ts) m
cons_end a b d env ts x y m o p two is made rest asked =
    let both : operand_view x.part ∷ operand_view y.part ∷ [] ≡ o ∷ p ∷ [] = sym (ap typed_view two) ∙ is in
    let head : operand_view x.part ≡ o = cc in
    let tail : operand_view y.part ≡ p = cc in
    subst (λ q. EndsPatterns a d env (cons_asks (pattern_of a.item q) (pattern_of a.item p)) (pattern_of a.item q ∷ pattern_of a.item p ∷ []) (nodes_of ts) m) head
    (subst (λ q. EndsPatterns a d env (cons_asks (pattern_of a.item (operand_view x.part)) (pattern_of a.item q)) (pattern_of a.item (operand_view x.part) ∷ pattern_of a.item q ∷ []) (nodes_of ts) m) tail
    (subst (λ ms. EndsPatterns a d env (cons_asks (pattern_of a.item (operand_view x.part)) (pattern_of a.item (operand_view y.part))) (pattern_of a.item (operand_view x.part) ∷ pattern_of a.item (operand_view y.part) ∷ []) ms m) (sym (ap nodes_of two))
    (ends_cons a b d env (pattern_of a.item (operand_view x.part)) (pattern_of a.item (operand_view y.part)) (place_of y.part.span) x.ty.0 y.ty.0 m (pattern_of_stands a.item (operand_view y.part)).where_it_is made rest asked)))

-- the end of [ p; p ], where there is a first pattern
pub list_end : (a b d : Parts) (env : List Entry) (ts rest : List TypedPart) (x : TypedPart) (m : ℕ) → ts ≡ x ∷ rest → Goes a b → AsksEach a b env (patterns_of a.item (typed_view rest)) (nodes_of rest) x.ty.0 →
    (IsNode b.store.nodes x.ty.0 → Makes b.store d.store m (Con list_path (codes "list") (x.ty.0 ∷ []))) → OnlyStore b d → EndsPatterns a d env (list_asks (patterns_of a.item (typed_view ts))) (patterns_of a.item (typed_view ts)) (nodes_of ts) m
list_end a b d env ts rest x m is goes each made only =
    subst (λ us. EndsPatterns a d env (list_asks (patterns_of a.item (typed_view us))) (patterns_of a.item (typed_view us)) (nodes_of us) m) (sym is)
    (ends_list a b d env (pattern_of a.item (operand_view x.part)) (patterns_of a.item (typed_view rest)) x.ty.0 m (nodes_of rest) goes each made only)

-- its end, where there is none
pub list_end_none : (a b d : Parts) (env : List Entry) (ts : List TypedPart) (element m : ℕ) → ts ≡ [] → TypesAny a b element → (IsNode b.store.nodes element → Makes b.store d.store m (Con list_path (codes "list") (element ∷ []))) → OnlyStore b d →
    EndsPatterns a d env (list_asks (patterns_of a.item (typed_view ts))) (patterns_of a.item (typed_view ts)) (nodes_of ts) m
list_end_none a b d env ts element m is any made only =
    subst (λ us. EndsPatterns a d env (list_asks (patterns_of a.item (typed_view us))) (patterns_of a.item (typed_view us)) (nodes_of us) m) (sym is) (ends_list_none a b d env element m [] any made only)

-- the node of the first typed pattern
pub first_node : (ts rest : List TypedPart) (x : TypedPart) → ts ≡ x ∷ rest → slice_get (nodes_of ts) 0 ≡ Some x.ty.0
first_node ts rest x e = ap (λ us. slice_get (nodes_of us) 0) e

-- there is one, where an operand was typed
pub no_typed : (ts : List TypedPart) (o : Numbered) (os : List Numbered) → ts ≡ [] → typed_view ts ≡ o ∷ os → ⊥
no_typed ts o os none e = let both : [] ≡ o ∷ os = sym (ap typed_view none) ∙ e in cc

-- it is at the place of the first operand
first_place : (ts rest : List TypedPart) (x : TypedPart) (o : Numbered) (os : List Numbered) → ts ≡ x ∷ rest → typed_view ts ≡ o ∷ os → place_of x.part.span ≡ o.at
first_place ts rest x o os e is =
    let both : operand_view x.part ∷ typed_view rest ≡ o ∷ os = sym (ap typed_view e) ∙ is in
    let same : operand_view x.part ≡ o = cc in
    ap (λ (y : Numbered). y.at) same

-- it is asked to have the written type
pub first_asked : (a b : Parts) (env : List Entry) (given : Option Numbered) (ts rest : List TypedPart) (x : TypedPart) (m : ℕ) → ts ≡ x ∷ rest → AsksWritten a b env given (place_of x.part.span) x.ty.0 m →
    (o : Numbered) (os : List Numbered) → typed_view ts ≡ o ∷ os → AsksFirst a b env given o.at (nodes_of ts) m
first_asked a b env given ts rest x m e asked o os is = (x.ty.0, first_node ts rest x e, subst (λ p. AsksWritten a b env given p x.ty.0 m) (first_place ts rest x o os e is) asked)

-- a pattern in parentheses, by whether a type is written
pub paren_row : (a b d e : Parts) (env : List Entry) (number : ℕ) (t : Tree) (given : Option Numbered) (ty : NodeRef) (names more : List Bind) (seen then : List Name) (ms : List ℕ) → first_in number t 3 ≡ given → MatchesOperands a b env (operands_in number t 1) names more seen then ms → Goes a b →
    (given ≡ None → (o : Numbered) (os : List Numbered) → operands_in number t 1 ≡ o ∷ os → (slice_get ms 0 ≡ Some ty.0) × (d ≡ b)) → ((o : Numbered) (os : List Numbered) → operands_in number t 1 ≡ o ∷ os → AsksFirst b d env given o.at ms ty.0) → Goes b d →
    NotedNameless d e number env (Some ty) → OnlyIndex d e → MatchesNodeOf pparen_row a e env number t names more seen then ty.0
paren_row a b d e env number t None ty names more seen then ms is matched goes first asked on noted rest = paren_matches a b d e env number t ty names more seen then ms is matched goes (first refl) noted rest
paren_row a b d e env number t (Some w) ty names more seen then ms is matched goes first asked on noted rest = written_matches a b d e env number t w ty names more seen then ms is matched goes asked on noted rest

-- all sides: the names in them stand behind those from before
pub beside_done : (a b : Parts) (env : List Entry) (ps left : List Pattern) (seen now apart last : List (Bor Token)) (sides : List rules.Side) → left ≡ [] → last ≡ now ++ apart → BesideFirst a b env ps left (names_seen seen) (names_seen now) (names_seen apart) sides →
    MatchesSides a b env ps (names_seen seen) sides × (names_seen last ≡ names_seen seen ++ all_mentions ps)
beside_done a b env ps left seen now apart last sides none appended f =
    let mentioned : names_seen apart ≡ all_mentions ps = sym (append-nil (names_seen apart)) ∙ ap (λ qs. names_seen apart ++ all_mentions qs) (sym none) ∙ f.mentioned in
    (sides_all a b env ps left (names_seen seen) sides none f.matched, ap names_seen appended ∙ names_both now apart ∙ (λ k. f.before k ++ mentioned k))

-- no side yet
pub beside_none : (a : Parts) (env : List Entry) (ps : List Pattern) (seen apart : List (Bor Token)) (sides : List SideMatch) → apart ≡ [] → sides ≡ [] → BesideFirst a a env ps ps (names_seen seen) (names_seen seen) (names_seen apart) (map side_of sides)
beside_none a env ps seen apart sides none no_sides = record {
  matched = subst (λ ss. MatchesSidesFirst a a env ps ps (names_seen seen) (map side_of ss)) (sym no_sides) (sides_none a env ps (names_seen seen));
  before = refl;
  mentioned = ap (λ ts. names_seen ts ++ all_mentions ps) none;
}

-- the sides of an or-pattern, once they are compared and the names of the first are bound
pub sides_compared : (b c d : Parts) (env : List Entry) (os : List Numbered) (ss : List SideMatch) (m : ℕ) (names more : List BoundName) → parts_of_sides ss ≡ os →
    ((i : ℕ) (x : rules.Side) (xs : List rules.Side) (o : Numbered) (others : List Numbered) → map side_of ss ≡ x ∷ xs → parts_of_sides ss ≡ o ∷ others → AsksLater b c env x xs (patterns_of i others)) →
    ((x : rules.Side) (xs : List rules.Side) → map side_of ss ≡ x ∷ xs → (x.node ≡ m) × (binds_of more ≡ binds_of names ++ x.names) × (d ≡ c)) →
    (o : Numbered) (others : List Numbered) → os ≡ o ∷ others → SidesCompared b d env os (map side_of ss) m (binds_of names) (binds_of more)
sides_compared b c d env os [] m names more parts asked first o others is = absurd (let none : [] ≡ o ∷ others = parts ∙ is in cc)
sides_compared b c d env os (s ∷ ss) m names more parts asked first o others is =
    let x = side_of s in
    let xs = map side_of ss in
    let h = first x xs refl in
    record {
      first = x;
      rest = xs;
      split = refl;
      asked = λ p qs cut. subst (λ e. AsksLater b e env x xs (patterns_of b.item qs)) (sym h.2) (asked b.item x xs p qs refl (parts ∙ cut));
      node = h.0;
      bound = h.1;
    }

-- what later sides are asked beside the first, by their operands
pub later_asked : (a b : Parts) (env : List Entry) (ss rest : List SideMatch) (s : SideMatch) → ss ≡ s ∷ rest → ((i : ℕ) → AsksLater a b env (side_of s) (map side_of rest) (patterns_of i (parts_of_sides rest))) →
    (i : ℕ) (x : rules.Side) (xs : List rules.Side) (o : Numbered) (os : List Numbered) → map side_of ss ≡ x ∷ xs → parts_of_sides ss ≡ o ∷ os → AsksLater a b env x xs (patterns_of i os)
later_asked a b env ss rest s split asked i x xs o os sides parts =
    let both : side_of s ∷ map side_of rest ≡ x ∷ xs = sym (ap (map side_of) split) ∙ sides in
    let operands : operand_view s.part ∷ parts_of_sides rest ≡ o ∷ os = sym (ap parts_of_sides split) ∙ parts in
    let head : side_of s ≡ x = cc in
    let tail : map side_of rest ≡ xs = cc in
    let others : parts_of_sides rest ≡ os = cc in
    subst (λ y. AsksLater a b env y xs (patterns_of i os)) head (subst (λ ys. AsksLater a b env (side_of s) ys (patterns_of i os)) tail (subst (λ qs. AsksLater a b env (side_of s) (map side_of rest) (patterns_of i qs)) others (asked i)))
