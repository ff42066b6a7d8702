-- The environment after items that are `let` and `;;` alone is that of the types of nodes alone.
use Rattle.std.proofs.Common.{◌≡◌, ℕ, ◌+◌, Bool, true, false, List, [], ◌∷◌, ◌++◌, map, Option, Some, None, refl, ◌∙◌, ap, subst, if◌then◌else◌}
use Rattle.token_model.specs.Kinds.{Tok}
use Rattle.tree_model.specs.Rows.{Row, let_row, break_row}
use Rattle.tree_model.specs.Trees.{Place, Tree, node, inner, part_yield}
use Rattle.type_model.specs.Types.{Typ, Tuple, Nil}
use Rattle.type_model.specs.Schemes.{Scheme}
use Rattle.signature_model.specs.Declarations.{in_text}
use Rattle.signature_model.specs.Entries.{Environment, entry, a_value}
use Rattle.typing_model.specs.Bindings.{generalises, names_of_group, held_by}
use Rattle.typing_model.specs.Contexts.{Choice, Context, Bound, under, entries_with, generalised_in}
use Rattle.typing_model.specs.Demands.{Site}
use Rattle.typing_model.specs.Expressions.{is_some, bindings_in}
use Rattle.typing_model.specs.Items.{inside_item, let_item, behind_items}
use Rattle.typing_model.specs.Meanings.{recorded_item, children_of, tree_child, item_base, items_from, items_of}
use Rattle.typing_model.specs.Modules.{item_row}
use Rattle.typing_model.specs.Parts.{Binding, Item, Child, in_slot, token_in}
use Rattle.typing_model.specs.Plain.{is_let_row, is_let_item, has_lets_alone}
use Rattle.typing_model.specs.Typings.{outermost}
use Rattle.typing_laws.specs.Renaming.{AreRenamed, at_node, at_letter, at_unknown, AreRenamedChoices}
use Rattle.typing_laws.proofs.Bools.{no_yes, and_cases}
use Rattle.typing_laws.proofs.Steady.{Each, no_one, one_and, each_append, IfThere, absent, there}
use Rattle.typing_laws.proofs.SteadyRows.{filtered}
use Rattle.typing_laws.proofs.Labelled.{EntriesAlike, as_one}
use Rattle.typing_laws.proofs.Beside.{BesideBinding, BesideChild, generalises_same, bindings_beside, children_beside}
use Rattle.shown_alike.proofs.AtNodes.{AtNode, BindingOfNodes, ChildOfNodes, slotted, children_at}

-- a choice of the types of nodes alone
abbrev pub nodes_alone : Choice → Choice
nodes_alone choice = record { type_at = choice.type_at; letter = λ n k. Tuple Nil; written = λ n x. Tuple Nil; filled = λ n o. Tuple Nil }

-- where the types of nodes are renamed ones of others, so are such choices
abbrev pub nodes_renamed : (choice other : Choice) → AreRenamed choice.type_at other.type_at → AreRenamedChoices (nodes_alone choice) (nodes_alone other)
nodes_renamed choice other r = record {
  forth = r.forth;
  back = r.back;
  nodes = r.gives;
  letters = λ n k. refl;
  unknowns = λ n o. refl;
  undone = λ v stands. elim stands [ at_node n i ↦ r.undone n v i | at_letter n k i ↦ absurd (no_yes i) | at_unknown n o i ↦ absurd (no_yes i) ];
}

-- two contexts with the same names in scope and the same types of nodes
pub record AtOne (c d : Context) : Type 0 where
  pub env : c.env ≡ d.env
  pub types : c.chosen.type_at ≡ d.chosen.type_at

both : {A B C : Type 0} (f : A → B → C) {a c : A} {b d : B} → a ≡ c → b ≡ d → f a b ≡ f c d
both f {a} {c} {b} {d} p q = ap (λ x. f x b) p ∙ ap (f c) q

types_one : (c d : Context) → AtOne c d → (bs : List Bound) → Each AtNode bs → map (λ b. b.has_type c) bs ≡ map (λ b. b.has_type d) bs
types_one c d h [] no_one = refl
types_one c d h (b ∷ bs) (one_and s each) = both (λ t ts. t ∷ ts) (s.has c d h.types) (types_one c d h bs each)

held_one : {choice other : Choice} {f : ℕ → ℕ} (c d : Context) → AtOne c d → (bs : List Binding) → Each BindingOfNodes bs → Each (BesideBinding choice other f) bs → held_by c bs ≡ held_by d bs
held_one c d h [] no_one no_one = refl
held_one c d h (b ∷ bs) (one_and s each) (one_and z beside) = by (generalises c b) (generalises d b) (generalises_same c d (subst (EntriesAlike c.env) h.env as_one) b z) (held_one c d h bs each beside)
  where
    names : map (λ n. n.has_type c) b.pattern.names ≡ map (λ n. n.has_type d) b.pattern.names
    names = let p = s.pattern in types_one c d h b.pattern.names p.binds

    by : (x y : Bool) → x ≡ y → held_by c bs ≡ held_by d bs →
        (if x then held_by c bs else c.chosen.type_at b.body.node ∷ map (λ n. n.has_type c) b.pattern.names ++ held_by c bs) ≡ (if y then held_by d bs else d.chosen.type_at b.body.node ∷ map (λ n. n.has_type d) b.pattern.names ++ held_by d bs)
    by true true e g = g
    by false false e g = both (λ t ts. t ∷ ts) (ap (λ k. k b.body.node) h.types) (both (λ xs ys. xs ++ ys) names g)
    by true false e g = absurd (cc)
    by false true e g = absurd (cc)

entries_one : (s z : Typ → Scheme) → s ≡ z → (c d : Context) → AtOne c d → (bs : List Bound) → Each AtNode bs → (X Y : Environment) → X ≡ Y → entries_with s c bs X ≡ entries_with z d bs Y
entries_one s z p c d h [] no_one X Y e = e
entries_one s z p c d h (b ∷ bs) (one_and k each) X Y e =
    entries_one s z p c d h bs each (entry b.name (in_text b.place) (a_value (s (b.has_type c))) ∷ X) (entry b.name (in_text b.place) (a_value (z (b.has_type d))) ∷ Y)
    (both (λ x xs. entry b.name (in_text b.place) (a_value x) ∷ xs) (ap (λ g. g (b.has_type c)) p ∙ ap z (k.has c d h.types)) e)

group_names : (bs : List Binding) → Each BindingOfNodes bs → Each AtNode (names_of_group bs)
group_names [] no_one = no_one
group_names (b ∷ bs) (one_and s each) = let p = s.pattern in each_append p.binds (group_names bs each)

-- what an item adds depends on the types of nodes alone
pub record AddsOne (i : Item) : Type 0 where
  pub adds : (c d : Context) → AtOne c d → i.adds c ≡ i.adds d

let_one : {choice other : Choice} {f : ℕ → ℕ} (n : ℕ) (ts : List Tok) (is_rec : Bool) (bs : List Binding) → Each BindingOfNodes bs → Each (BesideBinding choice other f) bs → AddsOne (let_item n ts is_rec bs)
let_one n ts is_rec bs each beside = record {
  adds = λ c d h.
      let e : Context = inside_item n ts c in
      let g : Context = inside_item n ts d in
      let within : AtOne e g = record { env = h.env; types = h.types } in
      entries_one (generalised_in c.env (held_by e bs)) (generalised_in d.env (held_by g bs)) (both generalised_in h.env (held_one e g within bs each beside)) e g within (names_of_group bs) (group_names bs each) [] [] refl;
}

row_one : (r : Row) (n : ℕ) (q : Place) (ts : List Tok) (cs : List Child) → is_let_row r ≡ true → Each ChildOfNodes cs → {choice other : Choice} {f : ℕ → ℕ} → Each (BesideChild choice other f) cs → IfThere AddsOne (item_row r n q ts cs)
unfolding item_row
row_one let_row n q ts cs e h k =
    there (let_one n ts (is_some (token_in 1 cs)) (bindings_in 2 cs) (filtered BindingOfNodes (λ c. c.binding) (in_slot 2 cs) (λ c g. g.binding) (slotted 2 cs h)) (bindings_beside 2 cs k))
row_one break_row n q ts cs e h k = there (record { adds = λ c d g. refl })
row_one _ n q ts cs e h k = absurd (no_yes e)

told_one : (n : ℕ) (i : Option Item) → IfThere AddsOne i → IfThere AddsOne (recorded_item n i)
told_one n None absent = absent
told_one n (Some i) (there s) = there (record { adds = s.adds })

tree_one : {choice other : Choice} (r : AreRenamedChoices choice other) (n : ℕ) (t : Tree) → is_let_item t ≡ true → IfThere AddsOne (tree_child n 0 t).item
tree_one r n (node row x ps) e =
    told_one n (item_row row n x.span (part_yield (inner (node row x ps))) (children_of (n + 1) row ps))
    (row_one row n x.span (part_yield (inner (node row x ps))) (children_of (n + 1) row ps) e (children_at (n + 1) row ps) (children_beside r (n + 1) row ps))

items_one : {choice other : Choice} (r : AreRenamedChoices choice other) (k : ℕ) (ts : List Tree) → has_lets_alone ts ≡ true → Each AddsOne (items_from k ts)
items_one r k [] e = no_one
items_one r k (t ∷ ts) e =
    let (first, others) = and_cases (is_let_item t) (has_lets_alone ts) e in
    by (items_one r (k + 1) ts others) (tree_child (item_base k) 0 t).item (tree_one r (item_base k) t first)
  where
    by : Each AddsOne (items_from (k + 1) ts) → (o : Option Item) → IfThere AddsOne o → Each AddsOne (elim o [ None ↦ items_from (k + 1) ts | Some y ↦ y ∷ items_from (k + 1) ts ])
    by later None absent = later
    by later (Some y) (there s) = one_and s later

behind_one : (c d : Context) → AtOne c d → (xs : List Item) → Each AddsOne xs → behind_items c xs ≡ behind_items d xs
behind_one c d h [] no_one = h.env
behind_one c d h (i ∷ xs) (one_and s each) =
    behind_one (under (i.adds c ++ c.env) c) (under (i.adds d ++ d.env) d) (record { env = both (λ ys zs. ys ++ zs) (s.adds c d h) h.env; types = h.types }) xs each

-- So the environment after items is that of the types of nodes alone.
pub behind_nodes : {choice other : Choice} (r : AreRenamedChoices choice other) (env : Environment) (items : List Tree) (kept : Site → Bool) (ch : Choice) → has_lets_alone items ≡ true →
    behind_items (outermost env kept ch) (items_of items) ≡ behind_items (outermost env kept (nodes_alone ch)) (items_of items)
behind_nodes r env items kept ch lets = behind_one (outermost env kept ch) (outermost env kept (nodes_alone ch)) (record { env = refl; types = refl }) (items_of items) (items_one r 1 items lets)
