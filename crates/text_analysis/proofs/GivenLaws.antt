-- Items that are typed one after the other.
use Rattle.std.proofs.Common.{◌≡◌, ◌∙◌, ℕ, ◌+◌, true, List, [], ◌∷◌, ◌++◌, length, Some, None, option_map, refl, sym, ap, subst, append_assoc, append-nil, arith}
use Rattle.tree_model.specs.Trees.{Tree, inner}
use Rattle.type_model.specs.Types.{Typ}
use Rattle.signature_model.specs.Entries.{Environment}
use Rattle.type_terms.specs.declared.types.NodeRef.{NodeRef}
use Rattle.type_nodes.specs.Nodes.{IsSound}
use Rattle.typing_model.specs.Contexts.{Choice}
use Rattle.typing_conditions.specs.Sights.{Letters}
use Rattle.typing_steps.specs.Typing.{as_declared}
use Rattle.typing_state.specs.declared.built_ins.Constants.{Constants}
use Rattle.typing_model.specs.Meanings.{items_from, items_of, item_base, tree_child}
use Rattle.typing_model.specs.Parts.{no_names, Item}
use Rattle.row_parts.specs.Numbered.{node_with}
use Rattle.env_table.specs.declared.entries.Entry.{Entry}
use Rattle.env_table.specs.declared.entries.Kind.TheVariants as kind
use Rattle.env_table.specs.declared.seen.Seen.{Seen}
use Rattle.typing_state.specs.declared.parts.Parts.{Parts}
use Rattle.typing_steps.specs.States.{is_aloud, sight, type_in, is_noted, reports_of, fixed_of}
use Rattle.typing_steps.specs.Constants.{HasConstants, HasType}
use Rattle.operand_laws.specs.Operands.{number_of}
use Rattle.typing_rows.specs.Noted.{AreNoted}
use Rattle.binding_rows.specs.Outside.{OnlyBetween}
use Rattle.binding_rows.specs.ItemRows.{IsCarriedItemOperand, ItemsDone, item_if, item_at}
use Rattle.binding_rows.proofs.ItemOrders.{done_none, done_then}
use Rattle.module_steps.specs.declared.scenes.Scene.{Scene}
use Rattle.module_steps.specs.Scenes.{SameNames}
use Rattle.module_typing.specs.Items.{IsGiven, GivesItem, AreCarriedItems, KeepsKnown, AllKeep, AddsValues}
use Rattle.text_analysis.specs.Weak.{AllAdd}
use Rattle.text_analysis.specs.Given.{operands_of, Given, NoneStands, IsAs}

-- the item of a tree, by its number in a text
item_from : (i : ℕ) (t : Tree) → item_at i (node_with 0 t) ≡ item_if (tree_child (item_base i) 0 t).item
item_from i t = ap (λ n. item_if (tree_child n 0 t).item) (let e : number_of i 0 ≡ item_base i = omega arith in e)

-- the items of a text are those of the first tree, and the others
item_first : (i : ℕ) (t : Tree) (ts : List Tree) → items_from i (t ∷ ts) ≡ item_at i (node_with 0 t) ++ items_from (i + 1) ts
item_first i t ts = by_item (tree_child (item_base i) 0 t).item refl
  where
    by_item : (m : _) → (tree_child (item_base i) 0 t).item ≡ m → items_from i (t ∷ ts) ≡ item_at i (node_with 0 t) ++ items_from (i + 1) ts
    by_item None e = ap (λ m. elim m [ None ↦ items_from (i + 1) ts | Some x ↦ x ∷ items_from (i + 1) ts ]) e ∙ ap (λ m. m ++ items_from (i + 1) ts) (sym (item_from i t ∙ ap item_if e))
    by_item (Some x) e = ap (λ m. elim m [ None ↦ items_from (i + 1) ts | Some y ↦ y ∷ items_from (i + 1) ts ]) e ∙ ap (λ m. m ++ items_from (i + 1) ts) (sym (item_from i t ∙ ap item_if e))

-- one item more in a text
items_from_more : (i : ℕ) (ts : List Tree) (t : Tree) → items_from i (ts ++ t ∷ []) ≡ items_from i ts ++ item_at (i + length ts) (node_with 0 t)
items_from_more i [] t = item_first i t [] ∙ append-nil (item_at i (node_with 0 t)) ∙ ap (λ n. item_at n (node_with 0 t)) (let e : i ≡ i + 0 = omega arith in e)
items_from_more i (u ∷ ts) t = item_first i u (ts ++ t ∷ []) ∙ ap (λ ms. item_at i (node_with 0 u) ++ ms) (items_from_more (i + 1) ts t)
    ∙ sym (append_assoc (item_at i (node_with 0 u)) (items_from (i + 1) ts) (item_at (i + 1 + length ts) (node_with 0 t)))
    ∙ ap (λ ms. ms ++ item_at (i + 1 + length ts) (node_with 0 t)) (sym (item_first i u ts))
    ∙ ap (λ n. items_from i (u ∷ ts) ++ item_at n (node_with 0 t)) (let e : i + 1 + length ts ≡ i + length (u ∷ ts) = omega arith in e)

pub items_more_of : (ts : List Tree) (t : Tree) → items_of (ts ++ t ∷ []) ≡ items_of ts ++ item_at (length ts + 1) (node_with 0 t)
items_more_of ts t = items_from_more 1 ts t ∙ ap (λ n. items_of ts ++ item_at n (node_with 0 t)) (let e : 1 + length ts ≡ length ts + 1 = omega arith in e)

-- of items and one more all are carried where the first ones and the last are
pub carried_split : (ts : List Tree) (t : Tree) → AreCarriedItems (operands_of (ts ++ t ∷ [])) → AreCarriedItems (operands_of ts) × IsCarriedItemOperand (node_with 0 t)
carried_split [] t c = (tt, c.0)
carried_split (u ∷ ts) t c = let r = carried_split ts t c.1 in ((c.0, r.0), r.1)

-- and so it is with those that leave open what is known of names
kept_split : (ts : List Tree) (t : Tree) → AllKeep (operands_of (ts ++ t ∷ [])) → AllKeep (operands_of ts) × KeepsKnown 0 (inner t)
kept_split [] t k = (tt, k.0)
kept_split (u ∷ ts) t k = let r = kept_split ts t k.1 in ((k.0, r.0), r.1)

-- and with those that add values alone
pub added_split : (ts : List Tree) (t : Tree) → AllAdd (operands_of (ts ++ t ∷ [])) → AllAdd (operands_of ts) × AddsValues (inner t)
added_split [] t k = (tt, k.0)
added_split (u ∷ ts) t k = let r = added_split ts t k.1 in ((k.0, r.0), r.1)

-- a state that is as another one has the same constants
constants_alike : {a b : Parts} → IsAs a b → HasConstants a → HasConstants b
constants_alike {a} {b} alike h = record {
  int = one (λ k. k.int) h.int;
  char = one (λ k. k.char) h.char;
  string = one (λ k. k.string) h.string;
  float = one (λ k. k.float) h.float;
  unit = one (λ k. k.unit) h.unit;
  bool = one (λ k. k.bool) h.bool;
  exn = one (λ k. k.exn) h.exn;
}
  where
    one : (f : Constants → NodeRef) → {t : Typ} → HasType a.store.nodes (f a.constants) t → HasType b.store.nodes (f b.constants) t
    one f {t} h = subst (λ k. HasType b.store.nodes (f k) t) (sym alike.constants) (subst (λ ns. HasType ns (f a.constants) t) (sym alike.nodes) h)

-- and something is recorded for the same nodes
noted_alike : {a b : Parts} → IsAs a b → (U : List ℕ) → AreNoted U a → AreNoted U b
noted_alike alike U noted k i = let x = noted k i in record { item = x.item; place = x.place; small = x.small; number = x.number; seen = x.seen; at = alike.index x.item x.place ∙ x.at }

-- and differs from it as between items
between_alike : {a b : Parts} → IsAs a b → is_aloud b.telling ≡ is_aloud a.telling → b.level ≡ a.level → OnlyBetween (sight a) (sight b)
between_alike alike telling level = record {
  nodes = alike.nodes;
  types = λ i p. ap type_in (alike.index i p);
  noted = λ i p h. ap is_noted (alike.index i p) ∙ h;
  scopes = λ i p env h. ap (option_map (λ (x : Seen). x.env)) (alike.index i p) ∙ h;
  reports = ap reports_of alike.faults;
  aloud = telling;
  level = level;
  fixed = ap fixed_of alike.constants;
}

-- What was done up to a state was done up to one that is as it.
pub done_alike : {K : Type 0} {E : Choice → Environment} {ms : List Item} {first a b : Parts} {G : Letters} {s s' : Scene} → IsSound first.store.nodes → IsAs a b → is_aloud b.telling ≡ is_aloud a.telling → b.level ≡ a.level → s'.env ≡ s.env → SameNames s s' →
    IsGiven K E ms no_names first a G s → IsGiven K E ms no_names first b G s'
done_alike {K} {E} {ms} {first} {a} {b} {G} {s} {s'} sound alike telling level scope same g = record {
  names = g.names;
  done = subst (λ es. ItemsDone as_declared K E ms no_names g.names first b G es) (sym scope) (subst (λ ns. ItemsDone as_declared K E ns no_names g.names first b G s.env) (append-nil ms)
      (done_then {last = g.names} sound g.done (done_none g.names (between_alike alike telling level) g.done.outside (constants_alike alike g.done.constants) (noted_alike alike g.done.outside.older g.done.noted) g.done.knows) (λ k. k) (λ k. k)));
  standing = record {
    types = λ n. same kind.TypeName n ∙ g.standing.types n;
    modules = λ n. same kind.Module n ∙ g.standing.modules n;
    module_types = λ n. same kind.ModuleType n ∙ g.standing.module_types n;
  };
}

-- Before the first item.
pub given_none : (first : Parts) (env : List Entry) (s : Scene) → s.env ≡ env → NoneStands s → Given first env [] first s
given_none first env s same none G E carried aloud at constants older = record {
  names = no_names;
  done = subst (λ es. ItemsDone as_declared ((at.known ≡ true) × Unit {0}) E [] no_names no_names first first G es) (sym same) (done_none no_names (between_alike {a = first} {b = first} (record { nodes = refl; index = λ i p. refl; faults = refl; constants = refl }) refl refl) at constants older (λ k. k.0));
  standing = record { types = λ n. none kind.TypeName n; modules = λ n. none kind.Module n; module_types = λ n. none kind.ModuleType n };
}

-- What items are typed to holds of a state that is as the one after them, at the lowest level and where faults are reported.
pub given_back : {first a b : Parts} {env : List Entry} {s s' : Scene} (items : List Tree) → IsAs a b → is_aloud b.telling ≡ true → b.level ≡ 0 → s'.env ≡ s.env → (AreCarriedItems (operands_of items) → SameNames s s') → Given first env items a s → Given first env items b s'
given_back {first} {a} {b} {env} {s} {s'} items alike telling level scope same given G E carried aloud at constants older =
    let g = given G E carried aloud at constants older in
    done_alike at.sound alike (telling ∙ sym (g.done.carried.stays.aloud ∙ aloud)) (level ∙ sym g.done.outside.level) scope (same carried) g

-- One item more is typed.
pub given_more : {first a b d : Parts} {env : List Entry} {s s' : Scene} (items : List Tree) (t : Tree) → Given first env items a s → IsAs a b → b.telling ≡ a.telling → b.level ≡ a.level → b.item ≡ length items + 1 → GivesItem b d s s' (node_with 0 t) →
    Given first env (items ++ t ∷ []) d s'
given_more {first} {a} {b} {d} {env} {s} {s'} items t given alike telling level number gives G E carried aloud at constants older =
    let split = carried_split items t carried in
    let g = done_alike {s' = s} at.sound alike (ap is_aloud telling) level refl (λ k n. refl) (given G E split.0 aloud at constants older) in
    let one = gives g.done.letters g.done.env g.names split.1 (g.done.carried.stays.aloud ∙ aloud) g.done.outside g.done.constants g.done.noted g.standing in
    let items_are : items_of items ++ item_at b.item (node_with 0 t) ≡ items_of (items ++ t ∷ []) = ap (λ n. items_of items ++ item_at n (node_with 0 t)) number ∙ sym (items_more_of items t) in
    record {
      names = one.names;
      done = subst (λ ms. ItemsDone as_declared ((at.known ≡ true) × AllKeep (operands_of (items ++ t ∷ []))) E ms no_names one.names first d G s'.env) items_are
          (done_then {last = one.names} at.sound g.done one.done (λ k. (k.0, (kept_split items t k.1).0)) (λ k. let kept = kept_split items t k.1 in (g.done.knows (k.0, kept.0), kept.1)));
      standing = one.standing;
    }
