-- Closing a group of bindings, name by name and binding by binding.
use Rattle.std.proofs.Common.{◌≡◌, ◌∙◌, ◌++◌, ◌+◌, ◌-◌, ◌<◌, ℕ, Bool, true, false, if◌then◌else◌, List, [], ◌∷◌, length, map, drop, reverse, refl, sym, ap, subst, append_assoc, append-nil, length-append, arith}
use Rattle.std.specs.Prelude.{slice_index_or}
use Rattle.std.proofs.lemmas.List.{map-append, reverse-append}
use Rattle.std.specs.declared.rc.Rc.{Rc}
use Rattle.std.specs.declared.alloc.Global.{Global}
use Rattle.type_nodes.specs.Nodes.{Node, Var, IsNode, IsSound, bound_level}
use Rattle.type_nodes.specs.States.{State}
use Rattle.type_nodes.specs.Changes.{Makes}
use Rattle.env_table.specs.declared.entries.Entry.{Entry}
use Rattle.env_table.specs.Views.{newest_first}
use Rattle.typing_state.specs.declared.parts.Parts.{Parts}
use Rattle.typing_state.specs.Goes.{Goes, OnlyStore}
use Rattle.typing_state.specs.Types.{level_for, MadeOne}
use Rattle.typing_state.proofs.Going.{goes_refl, with_store}
use Rattle.use_typing.proofs.Reading.{drop_read, rest_read}
use Rattle.pattern_typing.specs.declared.patterns.BoundName.{BoundName}
use Rattle.pattern_typing.specs.Matching.{binds_of}
use Rattle.pattern_rows.specs.Bounds.{Bind}
use Rattle.binding_rows.specs.CaseScopes.{names_added}
use Rattle.binding_rows.proofs.Scopes.{names_both}
use Rattle.binding_rows.specs.Closing.{Limit, LimitsNodes, GeneralisesAll}
use Rattle.binding_rows.specs.Lets.{ToClose, bind_nodes, names_closed, limited_nodes}
use Rattle.binding_rows.specs.LetNodes.{ClosesBindings, GeneralisesFirst}
use Rattle.binding_rows.proofs.Generalising.{generalised_rest, limited_rest}
use Rattle.binding_rows.proofs.LetTurns.{limits_none, limits_then}
use Rattle.binding_rows.proofs.LetLoops.{generalises_start, generalises_more, generalises_end, closes_bindings}
use Rattle.binding_rows.specs.Scopes.{InsideAll, InsideNodes}
use Rattle.binding_rows.proofs.ItemTurns.{inside_one}
use Rattle.binding_steps.specs.declared.groups.Bound.{Bound}
use Rattle.binding_steps.specs.Bindings.{closing_of, name_nodes}

-- where only the level is another, what was there stays
pub level_goes : (a : Parts) (l : ℕ) → Goes a (record a { level = l })
level_goes a l = let h : Goes a a = goes_refl a in record { store = h.store; types = h.types; faults = h.faults; index = h.index; recorded = h.recorded; item = h.item; telling = h.telling; constants = h.constants }

-- what is made of a list that grows at its end
pub mapped_more : {A B : Type 0} (f : A → B) (xs new : List A) (x : A) → new ≡ xs ++ x ∷ [] → map f new ≡ map f xs ++ f x ∷ []
mapped_more {A} f xs new x grown = ap (map f) grown ∙ by xs
  where
    by : (ys : List A) → map f (ys ++ x ∷ []) ≡ map f ys ++ f x ∷ []
    by [] = refl
    by (y ∷ ys) = ap (λ zs. f y ∷ zs) (by ys)

-- something was done with the types of the first of some names, and those of others are left
pub record NamesDone (R : List ℕ → Type 0) (left all : List ℕ) : Type 0 where
  pub done : List ℕ
  pub does : R done
  pub splits : done ++ left ≡ all

-- nothing was done yet
pub names_begun : {R : List ℕ → Type 0} (all : List ℕ) → R [] → NamesDone R all all
names_begun all none = record { done = []; does = none; splits = refl }

-- one name more
pub name_done : {R R' : List ℕ → Type 0} (left rest all : List ℕ) (m : ℕ) → left ≡ m ∷ rest → NamesDone R left all → ((ms : List ℕ) → R ms → R' (ms ++ m ∷ [])) → NamesDone R' rest all
name_done left rest all m split first more = record {
  done = first.done ++ m ∷ [];
  does = more first.done first.does;
  splits = append_assoc first.done (m ∷ []) rest ∙ ap (λ ns. first.done ++ ns) (sym split) ∙ first.splits;
}

-- all names
pub names_done : {R : List ℕ → Type 0} (left all : List ℕ) → left ≡ [] → NamesDone R left all → R all
names_done {R} left all none first = subst R (sym (append-nil first.done) ∙ ap (λ ns. first.done ++ ns) (sym none) ∙ first.splits) first.does

-- the nodes of names that are left
pub names_cut : (names : List BoundName) (k : ℕ) (x : BoundName) → k < length names → x ≡ slice_index_or names k x → name_nodes (drop k names) ≡ x.node.0 ∷ name_nodes (drop (k + 1) names)
names_cut names k x lt is = ap name_nodes (drop_read names k x lt is)

-- a binding that is generalised holds nothing
pub general_one : (a : Parts) (level : ℕ) (x : Bound) → x.generalises ≡ true → LimitsNodes a a level (limited_nodes (closing_of x ∷ []))
general_one a level x general = subst (λ v. LimitsNodes a a level (if v then [] else x.right.0 ∷ name_nodes x.matched.names.items ++ [])) (sym general) (limits_none a level)

-- and one that isn't holds the types of its right side and of its names
pub held_one : (a b d : Parts) (level : ℕ) (x : Bound) → x.generalises ≡ false → LimitsNodes a b level (x.right.0 ∷ []) → LimitsNodes b d level (name_nodes x.matched.names.items) → LimitsNodes a d level (limited_nodes (closing_of x ∷ []))
held_one a b d level x expansive right names =
    subst (λ v. LimitsNodes a d level (if v then [] else x.right.0 ∷ name_nodes x.matched.names.items ++ [])) (sym expansive)
    (subst (LimitsNodes a d level) (sym (append-nil (x.right.0 ∷ name_nodes x.matched.names.items))) (limits_then right names))

-- what the first of some bindings hold is limited, and some are left
pub record HoldsFirst (a b : Parts) (level : ℕ) (all left : List ToClose) : Type 0 where
  pub done : List ℕ
  pub limits : LimitsNodes a b level done
  pub splits : done ++ limited_nodes left ≡ limited_nodes all

-- no binding is held yet
pub holds_start : (a : Parts) (level : ℕ) (all : List ToClose) → HoldsFirst a a level all all
holds_start a level all = record { done = []; limits = limits_none a level; splits = refl }

one_held : (y : ToClose) (ys : List ToClose) → limited_nodes (y ∷ ys) ≡ limited_nodes (y ∷ []) ++ limited_nodes ys
one_held y ys = by y.general
  where
    by : (v : Bool) → (if v then limited_nodes ys else y.right ∷ bind_nodes y.names ++ limited_nodes ys) ≡ (if v then [] else y.right ∷ bind_nodes y.names ++ []) ++ limited_nodes ys
    by true = refl
    by false = ap (λ ns. y.right ∷ ns ++ limited_nodes ys) (sym (append-nil (bind_nodes y.names)))

-- one binding more
pub holds_step : (a b d : Parts) (level : ℕ) (all left rest : List ToClose) (y : ToClose) → left ≡ y ∷ rest → HoldsFirst a b level all left → LimitsNodes b d level (limited_nodes (y ∷ [])) → HoldsFirst a d level all rest
holds_step a b d level all left rest y split first next = record {
  done = first.done ++ limited_nodes (y ∷ []);
  limits = limits_then first.limits next;
  splits = append_assoc first.done (limited_nodes (y ∷ [])) (limited_nodes rest) ∙ ap (λ ns. first.done ++ ns) (sym (one_held y rest)) ∙ ap (λ ys. first.done ++ limited_nodes ys) (sym split) ∙ first.splits;
}

-- all bindings
pub holds_end : (a b : Parts) (level : ℕ) (all left : List ToClose) → left ≡ [] → HoldsFirst a b level all left → LimitsNodes a b level (limited_nodes all)
holds_end a b level all left none first = subst (LimitsNodes a b level) (sym (append-nil first.done) ∙ ap (λ ys. first.done ++ limited_nodes ys) (sym none) ∙ first.splits) first.limits

-- A group is closed so far: its types are limited, and the names of its first bindings are generalised and in scope.
pub record ClosesFirst (a b : Parts) (env within : List Entry) (all left : List ToClose) : Type 0 where
  pub lowered : Parts
  pub lowers : lowered ≡ record a { level = a.level - 1 }
  pub limited : Parts
  pub limits : LimitsNodes lowered limited lowered.level (limited_nodes all)
  pub generalises : GeneralisesFirst limited b env within all left

-- no name is closed yet
pub closes_start : (a limited : Parts) (env within : List Entry) (l : ℕ) (all : List ToClose) → l ≡ a.level - 1 → within ≡ env → LimitsNodes (record a { level = l }) limited l (limited_nodes all) → ClosesFirst a limited env within all all
closes_start a limited env within l all low same limits = record {
  lowered = record a { level = l };
  lowers = ap (λ k. record a { level = k }) low;
  limited = limited;
  limits = limits;
  generalises = subst (λ es. GeneralisesFirst limited limited env es all all) (sym same) (generalises_start limited env all);
}

-- the names of one binding more
pub closes_step : (a b d : Parts) (env within further : List Entry) (bs : List Bound) (k : ℕ) (x : Bound) → k < length bs → x ≡ slice_index_or bs k x → ClosesFirst a b env within (map closing_of bs) (map closing_of (drop k bs)) →
    GeneralisesAll b d (name_nodes x.matched.names.items) → further ≡ names_added (binds_of x.matched.names.items) within → ClosesFirst a d env further (map closing_of bs) (map closing_of (drop (k + 1) bs))
closes_step a b d env within further bs k x lt is first next brought = record {
  lowered = first.lowered;
  lowers = first.lowers;
  limited = first.limited;
  limits = first.limits;
  generalises = generalises_more first.limited b d env within further (map closing_of bs) (map closing_of (drop k bs)) (map closing_of (drop (k + 1) bs)) (closing_of x) (rest_read closing_of bs k x lt is) first.generalises next brought;
}

-- all names
pub closes_end : (a d : Parts) (env within : List Entry) (all left : List ToClose) → left ≡ [] → ClosesFirst a d env within all left → IsSound d.store.nodes → ClosesBindings a d all
closes_end a d env within all left none first sound = closes_bindings a first.lowered first.limited d all first.lowers first.limits (generalises_end first.limited d env within all left none first.generalises) sound

-- the names of one binding more are in scope
pub names_step : (bs : List Bound) (k : ℕ) (x : Bound) (env further whole : List Entry) → k < length bs → x ≡ slice_index_or bs k x → further ≡ names_added (binds_of x.matched.names.items) env →
    names_added (names_closed (map closing_of (drop k bs))) env ≡ whole → names_added (names_closed (map closing_of (drop (k + 1) bs))) further ≡ whole
names_step bs k x env further whole lt is brought so =
    let rest = names_closed (map closing_of (drop (k + 1) bs)) in
    ap (names_added rest) brought ∙ sym (names_both (binds_of x.matched.names.items) rest env) ∙ ap (λ ys. names_added (names_closed ys) env) (sym (rest_read closing_of bs k x lt is)) ∙ so

inside_written : (a b : Parts) (level scope : ℕ) (ls : List Limit) → InsideAll a b level scope ls → b.written ≡ a.written
inside_written a b level scope [] same = ap (λ (p : Parts). p.written) same
inside_written a b level scope (l ∷ ls) (c, one, here, rest) = inside_written c b level scope ls rest ∙ one.rest.written

-- Limits and the close of a group leave what is written.
pub written_kept : (a b d : Parts) (level scope : ℕ) (ms : List ℕ) (ys : List ToClose) → InsideNodes a b level scope ms → ClosesBindings b d ys → d.written ≡ a.written
written_kept a b d level scope ms ys inside closes =
    let close = closes.close in
    (generalised_rest close.limited d (bind_nodes (names_closed ys)) close.generalises_all).written ∙ (limited_rest close.lowered close.limited close.lowered.level closes.limits close.limits_all).written
    ∙ ap (λ (p : Parts). p.written) close.lowers ∙ inside_written a b level scope inside.limits inside.all

made_node : (old new : State) (n : ℕ) (c : Node) → Makes old new n c → n < length new.nodes
made_node old new n c makes = let e : length new.nodes ≡ length old.nodes + 1 = ap length makes.added.nodes ∙ length-append old.nodes (c ∷ []) in let k = makes.added.number in omega arith

-- A type is limited where a new variable of the level and the scope is made one with it.
pub inside_made : (a b : Parts) (mid : State) (n m level scope : ℕ) → level ≡ level_for bound_level → Makes a.store mid n (Var level scope) → IsNode mid.nodes m → (IsNode mid.nodes n → IsNode mid.nodes m → MadeOne mid.nodes b.store.nodes n m) → OnlyStore (with_store a mid) b → Goes a b → IsSound b.store.nodes →
    InsideNodes a b bound_level scope (m ∷ [])
inside_made a b mid n m level scope highest makes node one rest goes sound =
    let same : Makes a.store mid n (Var (level_for bound_level) scope) = subst (λ k. Makes a.store mid n (Var k scope)) highest makes in
    inside_one (mid, n, same, one (made_node a.store mid n (Var level scope) makes) node)
    (record { index = rest.index; faults = rest.faults; written = rest.written; item = rest.item; level = rest.level; telling = rest.telling; constants = rest.constants }) goes sound

-- an entry more, the newest
pub newest_more : (es fs : List (Rc Entry Global)) (r : Rc Entry Global) → fs ≡ es ++ r ∷ [] → newest_first fs ≡ r.value ∷ newest_first es
newest_more es fs r grown = ap newest_first grown ∙ ap reverse (map-append (λ (x : Rc Entry Global). x.value) es (r ∷ [])) ∙ reverse-append (map (λ (x : Rc Entry Global). x.value) es) (r.value ∷ [])

-- names are added in front of those before, whatever is after these
pub names_in_front : (ys : List Bind) (xs env : List Entry) → names_added ys (xs ++ env) ≡ names_added ys xs ++ env
names_in_front [] xs env = refl
names_in_front (y ∷ ys) xs env = names_in_front ys (y.entry ∷ xs) env
