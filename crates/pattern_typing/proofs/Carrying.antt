-- What the code's names, sides and typed patterns are in the definitions.
use Rattle.std.proofs.Common.{◌≡◌, ◌∙◌, ◌++◌, ◌||◌, ℕ, Bool, true, false, List, [], ◌∷◌, length, map, take, drop, Option, Some, None, option_map, refl, sym, ap, subst, if◌then◌else◌}
use Rattle.std.specs.Prelude.{not, is_some, slice_get, Result, Ok, Err, IfOk, OnOk}
use Rattle.std.specs.Str.{bytes_eq}
use Rattle.std.proofs.lemmas.Slice.Eq.{bytes_eq-Decides}
use denote.Ref.{Bor}
use Rattle.token_model.specs.Kinds.{Tok}
use Rattle.signature_model.specs.Declarations.{Name}
use Rattle.tree_model.specs.Rows.{Row, pany_row}
use Rattle.tree_model.specs.Trees.{Forest}
use Rattle.syntax_tree.specs.Names.{row_of}
use Rattle.syntax_tree.specs.View.{tok_of, node_view}
use Rattle.syntax_tree.specs.declared.tree.Node.{Node, out-Node}
use Rattle.syntax_tree.specs.declared.tree.Token.{Token}
use Rattle.syntax_tree.specs.declared.rows.RowName.{RowName}
use Rattle.syntax_tree.specs.declared.rows.RowName.TheVariants as name
use Rattle.syntax_tree.proofs.Views.{node_view_parts}
use Rattle.typing_model.specs.Records.{is_among}
use Rattle.env_table.specs.declared.faults.FaultKind.TheVariants as fault
use Rattle.typing_state.specs.declared.parts.Parts.{Parts}
use Rattle.typing_state.specs.Messages.{twice_text}
use Rattle.use_typing.specs.Labels.{toks_of, is_named_in}
use Rattle.typing_steps.specs.Demands.{TestedAs}
use Rattle.operand_laws.specs.Formed as formed
use Rattle.typing_rows.specs.CarriedPatternRows.{IsCarriedPatternRow}
use Rattle.typing_rows.specs.CarriedRows.{IsTreeOfCarriedPatterns}
use Rattle.pattern_rows.specs.Contracts.{AsksFresh}
use Rattle.pattern_rows.proofs.Going.{row_there}
use Rattle.pattern_rows.proofs.Leaves.{fresh_asked}
use Rattle.pattern_names.specs.PatternNames.{find_name}
use Rattle.pattern_rows.specs.Bounds.{Bind}
use Rattle.pattern_rows.specs.Sides.{find_bind, first_apart_here}
use Rattle.row_parts.specs.Numbered.{Numbered}
use Rattle.pattern_typing.specs.Matching.{bind_of, binds_of, names_seen, nodes_of, side_of, tokens_of, typed_view}
use Rattle.pattern_typing.specs.declared.patterns.BoundName.{BoundName}
use Rattle.pattern_typing.specs.declared.patterns.SideMatch.{SideMatch}
use Rattle.pattern_typing.specs.declared.patterns.TypedPart.{TypedPart}

-- whether two names are one doesn't depend on which of them stands first
pub names_turned : (x y : List ℕ) → bytes_eq x y ≡ bytes_eq y x
names_turned x y = by (bytes_eq x y) (bytes_eq y x) (bytes_eq-Decides x y).0 (bytes_eq-Decides x y).1 (bytes_eq-Decides y x).0 (bytes_eq-Decides y x).1
  where
    by : (b c : Bool) → (b ≡ true → x ≡ y) → (x ≡ y → b ≡ true) → (c ≡ true → y ≡ x) → (y ≡ x → c ≡ true) → b ≡ c
    by true true p q r s = refl
    by false false p q r s = refl
    by true false p q r s = sym (s (sym (p refl)))
    by false true p q r s = q (sym (r refl))

-- whether a name stands among those of some tokens
pub named_among : (n : Name) (ts : List Tok) → is_named_in n ts ≡ is_among n (map (λ t. t.name) ts)
named_among n [] = refl
named_among n (t ∷ ts) = (λ i. names_turned t.name n i || named_among n ts i)

-- the names of two lists
pub seen_both : (xs ys : List Tok) → map (λ t. t.name) (xs ++ ys) ≡ map (λ t. t.name) xs ++ map (λ t. t.name) ys
seen_both [] ys = refl
seen_both (x ∷ xs) ys = ap (λ ns. x.name ∷ ns) (seen_both xs ys)

-- a name behind those that were seen
pub seen_more : (old new : List (Bor Token)) (t : Tok) → toks_of new ≡ toks_of old ++ t ∷ [] → names_seen new ≡ names_seen old ++ t.name ∷ []
seen_more old new t e = ap (map (λ u. u.name)) e ∙ seen_both (toks_of old) (t ∷ [])

-- names of two lists with their types
pub binds_both : (xs ys : List BoundName) → binds_of (xs ++ ys) ≡ binds_of xs ++ binds_of ys
binds_both [] ys = refl
binds_both (x ∷ xs) ys = ap (λ bs. bind_of x ∷ bs) (binds_both xs ys)

-- a name behind others
pub binds_more : (old new : List BoundName) (x : BoundName) → new ≡ old ++ x ∷ [] → binds_of new ≡ binds_of old ++ bind_of x ∷ []
binds_more old new x e = ap binds_of e ∙ binds_both old (x ∷ [])

-- a typed pattern behind others
pub nodes_more : (old new : List TypedPart) (x : TypedPart) → new ≡ old ++ x ∷ [] → nodes_of new ≡ nodes_of old ++ x.ty.0 ∷ []
nodes_more old new x e = ap nodes_of e ∙ by old
  where
    by : (xs : List TypedPart) → nodes_of (xs ++ x ∷ []) ≡ nodes_of xs ++ x.ty.0 ∷ []
    by [] = refl
    by (y ∷ ys) = ap (λ ns. y.ty.0 ∷ ns) (by ys)

-- a side behind others
pub sides_more : (old new : List SideMatch) (x : SideMatch) → new ≡ old ++ x ∷ [] → map side_of new ≡ map side_of old ++ side_of x ∷ []
sides_more old new x e = ap (map side_of) e ∙ by old
  where
    by : (xs : List SideMatch) → map side_of (xs ++ x ∷ []) ≡ map side_of xs ++ side_of x ∷ []
    by [] = refl
    by (y ∷ ys) = ap (λ ss. side_of y ∷ ss) (by ys)

-- the names from before, of those that are seen with others behind
pub kept_names : (before seen : List (Bor Token)) (k : ℕ) (more : List Name) → k ≡ length before → names_seen seen ≡ names_seen before ++ more → names_seen (take k seen) ≡ names_seen before
kept_names before seen k more len e = ap (λ n. names_seen (take n seen)) len ∙ by before seen e
  where
    by : (bs ss : List (Bor Token)) → names_seen ss ≡ names_seen bs ++ more → names_seen (take (length bs) ss) ≡ names_seen bs
    by [] ss e = refl
    by (b ∷ bs) [] e = absurd (cc)
    by (b ∷ bs) (s ∷ ss) e =
        let head : (tok_of s.now).name ≡ (tok_of b.now).name = cc in
        let tail : names_seen ss ≡ names_seen bs ++ more = cc in
        (λ i. head i ∷ by bs ss tail i)

-- and the others
pub moved_names : (before seen : List (Bor Token)) (k : ℕ) (more : List Name) → k ≡ length before → names_seen seen ≡ names_seen before ++ more → names_seen (drop k seen) ≡ more
moved_names before seen k more len e = ap (λ n. names_seen (drop n seen)) len ∙ by before seen e
  where
    by : (bs ss : List (Bor Token)) → names_seen ss ≡ names_seen bs ++ more → names_seen (drop (length bs) ss) ≡ more
    by [] ss e = e
    by (b ∷ bs) [] e = absurd (cc)
    by (b ∷ bs) (s ∷ ss) e = by bs ss (let tail : names_seen ss ≡ names_seen bs ++ more = cc in tail)

-- the names of two lists of tokens
pub names_both : (xs ys : List (Bor Token)) → names_seen (xs ++ ys) ≡ names_seen xs ++ names_seen ys
names_both [] ys = refl
names_both (x ∷ xs) ys = ap (λ ns. (tok_of x.now).name ∷ ns) (names_both xs ys)

-- what holds of any answer
pub if_any : {A E : Type 0} (r : Result A E) (Q : A → Type 0) → ((x : A) → Q x) → IfOk r Q
if_any (Ok x) Q f = f x
if_any (Err e) Q f = tt

-- none of something else is none
pub none_of : {A B : Type 0} (f : A → B) (o : Option A) → option_map f o ≡ None → o ≡ None
none_of f None e = refl
none_of f (Some x) e = absurd (cc)

-- the row of a node, by its name
pub tree_row : (nd : Node) (q : RowName) (r : Row) → (out-Node nd).row ≡ q → row_of q ≡ r → formed.row_of (node_view nd) ≡ r
tree_row nd q r e k = ap formed.row_of (node_view_parts nd) ∙ ap row_of e ∙ k

-- a carried row that is none of the others is _
pub any_name : (r : RowName) (ps : Forest) → IsCarriedPatternRow (row_of r) ps → (r ≡ name.Papp → ⊥) → (r ≡ name.Pcon → ⊥) → (r ≡ name.Por → ⊥) → (r ≡ name.Pparen → ⊥) → (r ≡ name.Plist → ⊥) → (r ≡ name.Pcons → ⊥) → (r ≡ name.Ptuple → ⊥) → (r ≡ name.Pas → ⊥) → (r ≡ name.Pname → ⊥) → (r ≡ name.Pconst → ⊥) → (r ≡ name.Pneg → ⊥) → (r ≡ name.Precord → ⊥) →
    row_of r ≡ pany_row
unfolding row_of
any_name name.Pany ps h o o0 o1 o2 o3 o4 o5 o6 o7 o8 o9 o10 = refl
any_name name.Papp ps h o o0 o1 o2 o3 o4 o5 o6 o7 o8 o9 o10 = absurd (o refl)
any_name name.Pcon ps h o o0 o1 o2 o3 o4 o5 o6 o7 o8 o9 o10 = absurd (o0 refl)
any_name name.Por ps h o o0 o1 o2 o3 o4 o5 o6 o7 o8 o9 o10 = absurd (o1 refl)
any_name name.Pparen ps h o o0 o1 o2 o3 o4 o5 o6 o7 o8 o9 o10 = absurd (o2 refl)
any_name name.Plist ps h o o0 o1 o2 o3 o4 o5 o6 o7 o8 o9 o10 = absurd (o3 refl)
any_name name.Pcons ps h o o0 o1 o2 o3 o4 o5 o6 o7 o8 o9 o10 = absurd (o4 refl)
any_name name.Ptuple ps h o o0 o1 o2 o3 o4 o5 o6 o7 o8 o9 o10 = absurd (o5 refl)
any_name name.Pas ps h o o0 o1 o2 o3 o4 o5 o6 o7 o8 o9 o10 = absurd (o6 refl)
any_name name.Pname ps h o o0 o1 o2 o3 o4 o5 o6 o7 o8 o9 o10 = absurd (o7 refl)
any_name name.Pconst ps h o o0 o1 o2 o3 o4 o5 o6 o7 o8 o9 o10 = absurd (o8 refl)
any_name name.Pneg ps h o o0 o1 o2 o3 o4 o5 o6 o7 o8 o9 o10 = absurd (o9 refl)
any_name name.Precord ps h o o0 o1 o2 o3 o4 o5 o6 o7 o8 o9 o10 = absurd (o10 refl)
any_name _ ps h o o0 o1 o2 o3 o4 o5 o6 o7 o8 o9 o10 = absurd h

-- the same of a node
pub any_row : (nd : Node) → IsTreeOfCarriedPatterns (node_view nd) → ((out-Node nd).row ≡ name.Papp → ⊥) → ((out-Node nd).row ≡ name.Pcon → ⊥) → ((out-Node nd).row ≡ name.Por → ⊥) → ((out-Node nd).row ≡ name.Pparen → ⊥) → ((out-Node nd).row ≡ name.Plist → ⊥) → ((out-Node nd).row ≡ name.Pcons → ⊥) → ((out-Node nd).row ≡ name.Ptuple → ⊥) → ((out-Node nd).row ≡ name.Pas → ⊥) →
    ((out-Node nd).row ≡ name.Pname → ⊥) → ((out-Node nd).row ≡ name.Pconst → ⊥) → ((out-Node nd).row ≡ name.Pneg → ⊥) → ((out-Node nd).row ≡ name.Precord → ⊥) → formed.row_of (node_view nd) ≡ pany_row
any_row nd h o o0 o1 o2 o3 o4 o5 o6 o7 o8 o9 o10 =
    let there = row_there (node_view nd) h in
    let row = ap formed.row_of (node_view_parts nd) in
    row ∙ any_name (out-Node nd).row there.0 (subst (λ q. IsCarriedPatternRow q there.0) row there.1) o o0 o1 o2 o3 o4 o5 o6 o7 o8 o9 o10

-- What comes of a name that is asked to be new: the call tells whether it is named again, and then it is reported.
pub fresh_told : (a b : Parts) (again : Bool) (t : Token) (seen : List (Bor Token)) → again ≡ is_named_in (tok_of t).name (toks_of seen) → TestedAs (not again) a b t.span fault.Unique (twice_text (tok_of t).name) → AsksFresh a b (tok_of t) (names_seen seen)
fresh_told a b again t seen is tested = fresh_asked a b (tok_of t) t.span (names_seen seen) refl (subst (λ q. TestedAs (not q) a b t.span fault.Unique (twice_text (tok_of t).name)) (is ∙ named_among (tok_of t).name (toks_of seen)) tested)

-- what holds behind a call that answers
pub on_ok : {A E : Type 0} (r : Result A E) (P Q : Type 0) → (P → Q) → OnOk r P → OnOk r Q
on_ok (Ok x) P Q f h = f h
on_ok (Err e) P Q f h = tt

-- the name among those of some, where it is the first or not
pub found_first : (n : Name) (x : BoundName) (rest : List BoundName) → bytes_eq (tok_of x.token.now).name n ≡ true → find_bind n (binds_of (x ∷ rest)) ≡ Some (bind_of x)
found_first n x rest e = ap (λ (t : Bool). if t then Some (bind_of x) else find_bind n (binds_of rest)) (names_turned n (tok_of x.token.now).name ∙ e)

pub found_behind : (n : Name) (x : BoundName) (rest : List BoundName) → bytes_eq (tok_of x.token.now).name n ≡ false → find_bind n (binds_of (x ∷ rest)) ≡ find_bind n (binds_of rest)
found_behind n x rest e = ap (λ (t : Bool). if t then Some (bind_of x) else find_bind n (binds_of rest)) (names_turned n (tok_of x.token.now).name ∙ e)

-- the node of the first typed pattern, as it is read
pub first_read : (ts : List TypedPart) (x : TypedPart) → slice_get ts 0 ≡ Some x → slice_get (nodes_of ts) 0 ≡ Some x.ty.0
first_read [] x e = absurd (cc)
first_read (t ∷ ts) x e = let same : t ≡ x = cc in ap (λ (y : TypedPart). Some y.ty.0) same

-- there is one, where an operand was typed
pub none_read : (ts : List TypedPart) (o : Numbered) (os : List Numbered) → slice_get ts 0 ≡ None → typed_view ts ≡ o ∷ os → ⊥
none_read [] o os none e = cc
none_read (t ∷ ts) o os none e = cc

-- the same among tokens
pub named_first : (n : Name) (x : BoundName) (rest : List BoundName) → bytes_eq (tok_of x.token.now).name n ≡ true → find_name n (tokens_of (x ∷ rest)) ≡ Some (tok_of x.token.now)
named_first n x rest e = ap (λ (t : Bool). if t then Some (tok_of x.token.now) else find_name n (tokens_of rest)) e

pub named_behind : (n : Name) (x : BoundName) (rest : List BoundName) → bytes_eq (tok_of x.token.now).name n ≡ false → find_name n (tokens_of (x ∷ rest)) ≡ find_name n (tokens_of rest)
named_behind n x rest e = ap (λ (t : Bool). if t then Some (tok_of x.token.now) else find_name n (tokens_of rest)) e

-- the first name of some that isn't among others: it is the first, or it is looked for behind that
pub apart_first : (x : BoundName) (rest others : List BoundName) (found : Option (Bor BoundName)) → option_map (λ b. bind_of b.now) found ≡ find_bind (tok_of x.token.now).name (binds_of others) → is_some found ≡ false →
    first_apart_here (binds_of (x ∷ rest)) (binds_of others) ≡ Some (tok_of x.token.now).name
apart_first x rest others None e none = ap (λ (o : Option Bind). let r : Option Name = elim o [ None ↦ Some (tok_of x.token.now).name | Some q ↦ first_apart_here (binds_of rest) (binds_of others) ] in r) (sym e)
apart_first x rest others (Some b) e none = absurd (cc)

pub apart_behind : (x : BoundName) (rest others : List BoundName) (found : Option (Bor BoundName)) → option_map (λ b. bind_of b.now) found ≡ find_bind (tok_of x.token.now).name (binds_of others) → is_some found ≡ true →
    first_apart_here (binds_of (x ∷ rest)) (binds_of others) ≡ first_apart_here (binds_of rest) (binds_of others)
apart_behind x rest others None e some = absurd (cc)
apart_behind x rest others (Some b) e some = ap (λ (o : Option Bind). let r : Option Name = elim o [ None ↦ Some (tok_of x.token.now).name | Some q ↦ first_apart_here (binds_of rest) (binds_of others) ] in r) (sym e)
