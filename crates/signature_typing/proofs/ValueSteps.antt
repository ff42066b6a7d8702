-- What the items of a signature of values give, one after the other.
use Rattle.std.proofs.Common.{◌≡◌, ◌∙◌, ℕ, ◌+◌, ◌<◌, ◌≤◌, drop, length, slice_index_or, List, [], ◌∷◌, ◌++◌, map, Some, None, refl, sym, ap, subst, append_assoc, append-nil}
use Rattle.std.specs.Prelude.{Result, Ok, Err, OnOk}
use Rattle.std.proofs.lemmas.List.{drop_more, drop_all}
use Rattle.std.specs.declared.rc.Rc.{Rc}
use Rattle.std.specs.declared.alloc.Global.{Global}
use denote.Ref.{Bor}
use Rattle.token_model.specs.Kinds.{Tok}
use Rattle.tree_model.specs.Trees.{Tree, inner}
use Rattle.text_terms.specs.Bytes.{str_bytes}
use Rattle.signature_model.specs.Entries.{Environment, a_module, entries_of, entries_in}
use Rattle.signature_model.specs.Entries.{Entry as Named, kind_of as kind_named}
use Rattle.signature_model.specs.Signatures.{Signature, Structure, template, Components, Done, Component, Value, TypeName, Exception, Module, ModuleType}
use Rattle.typing_model.specs.Contexts.{Choice, Context, under}
use Rattle.typing_model.specs.Items.{items_ask, behind_items, components_of_items, then_components, made_by_items, newest_alone, signature_of_items}
use Rattle.typing_model.specs.Parts.{Item, no_names}
use Rattle.syntax_tree.specs.declared.rows.RowName.TheVariants as name
use Rattle.syntax_tree.specs.declared.tree.Node.{Node, out-Node}
use Rattle.syntax_tree.specs.View.{node_view, place_of}
use Rattle.row_parts.specs.declared.slots.Operand.{Operand}
use Rattle.row_parts.specs.Numbered.{Numbered, numbered, part_of, operand_view, token_in}
use Rattle.env_table.specs.declared.entries.Entry.{Entry}
use Rattle.typing_state.specs.declared.parts.Parts.{Parts}
use Rattle.typing_state.specs.Goes.{Goes}
use Rattle.env_table.specs.declared.entries.Sig.{Sig}
use Rattle.env_table.specs.declared.entries.What.TheVariants as what
use Rattle.env_table.specs.Views.{kind_of}
use Rattle.typing_conditions.specs.Environments.{defined_at, WhatAs, of_module, entry_as, EnvAs, no_names as no_entries, newest, SigAs}
use Rattle.typing_conditions.specs.Declared.{DeclaredAs, ExceptionAs}
use Rattle.typing_conditions.specs.Sights.{Letters}
use Rattle.typing_conditions.proofs.Environments.{env_append}
use Rattle.typing_steps.specs.Constants.{HasConstants}
use Rattle.typing_steps.specs.States.{is_aloud, sight}
use Rattle.typing_steps.specs.Typing.{as_declared}
use Rattle.typing_rows.specs.Noted.{AreNoted}
use Rattle.signature_model.specs.Templates.{made_at}
use Rattle.binding_rows.specs.Outside.{InEachMet, Outside}
use Rattle.binding_rows.proofs.ItemOrders.{done_here, done_one, one_outside, one_each, done_then, then_outside, then_each}
use Rattle.first_laws.specs.Declaring.{SpecifiedAs, Grows, StartsAfter}
use Rattle.first_laws.proofs.Within.{grows_none, grows_both, entries_on, outside_within}
use Rattle.declared_items.specs.Adding.{AddsAlike}
use Rattle.declared_items.proofs.Adding.{adds_none, adds_then}
use Rattle.sig_template.specs.Structures as shown
use Rattle.module_steps.specs.declared.scenes.Scene.{Scene}
use Rattle.signature_typing.specs.ValueItems.{IsValueNode, IsValuePart, AllValues, ValueAdded, GivesValue}
use Rattle.signature_typing.specs.Specifications.{specification_at, specifications_at, IsKnownValue, AllMet}
use Rattle.signature_typing.specs.ValueSignatures.{AddsNewest, AddsIf, ValuesAdded, GivesAdded, GivesAllAdded, AddsFirst, GivesAddedFirst}
use Rattle.signature_typing.proofs.NodeRows.{row_there, only_val}
use Rattle.signature_typing.proofs.Newest.{values_by, values_back}
use Rattle.signature_typing.proofs.Unmade.{made_nothing}
use Rattle.signature_typing.proofs.SpecificationSteps.{there}
use Rattle.signature_typing.proofs.Specifications.{value_there, value_is_added, met_after}

-- no components after others
then_nothing : (cs : Components) → then_components cs Done ≡ cs
then_nothing Done = refl
then_nothing (Component n at m cs) = ap (Component n at m) (then_nothing cs)

-- the entries of components after others
then_entries : (cs ds : Components) → entries_in (then_components cs ds) ≡ entries_in cs ++ entries_in ds
then_entries Done ds = refl
then_entries (Component n at m cs) ds = ap (λ es. entries_of n at m ++ es) (then_entries cs ds) ∙ sym (append_assoc (entries_of n at m) (entries_in cs) (entries_in ds))

-- the entries of the components of items after others
both_entries : (x : Context) (ms ns : List Item) → entries_in (components_of_items x (ms ++ ns)) ≡ entries_in (components_of_items x ms) ++ entries_in (components_of_items (under (behind_items x ms) x) ns)
both_entries x [] ns = refl
both_entries x (m ∷ ms) ns =
    let y = under (m.adds x ++ x.env) x in
    then_entries (m.components x) (components_of_items y (ms ++ ns))
    ∙ ap (λ es. entries_in (m.components x) ++ es) (both_entries y ms ns)
    ∙ sym (append_assoc (entries_in (m.components x)) (entries_in (components_of_items y ms)) (entries_in (components_of_items (under (behind_items y ms) y) ns)))
    ∙ ap (λ es. es ++ entries_in (components_of_items (under (behind_items y ms) y) ns)) (sym (then_entries (m.components x) (components_of_items y ms)))

-- values after others are values
values_then : (cs ds : Components) → AllValues cs → AllValues ds → AllValues (then_components cs ds)
values_then Done ds v w = w
values_then (Component n at (Value s) cs) ds v w = values_then cs ds v w
values_then (Component n at (TypeName d) cs) ds v w = absurd v
values_then (Component n at (Exception o) cs) ds v w = absurd v
values_then (Component n at (Module s) cs) ds v w = absurd v
values_then (Component n at (ModuleType made s) cs) ds v w = absurd v

-- the first of values, and the others
values_first : (cs ds : Components) → AllValues (then_components cs ds) → AllValues cs × AllValues ds
values_first Done ds v = (tt, v)
values_first (Component n at (Value s) cs) ds v = values_first cs ds v
values_first (Component n at (TypeName d) cs) ds v = absurd v
values_first (Component n at (Exception o) cs) ds v = absurd v
values_first (Component n at (Module s) cs) ds v = absurd v
values_first (Component n at (ModuleType made s) cs) ds v = absurd v

values_both : (x : Context) (ms ns : List Item) → AllValues (components_of_items x ms) → AllValues (components_of_items (under (behind_items x ms) x) ns) → AllValues (components_of_items x (ms ++ ns))
values_both x [] ns v w = w
values_both x (m ∷ ms) ns v w =
    let y = under (m.adds x ++ x.env) x in
    let (here, later) = values_first (m.components x) (components_of_items y ms) v in
    values_then (m.components x) (components_of_items y (ms ++ ns)) here (values_both y ms ns later w)

-- the origins that items after others make
made_both : (x : Context) (ms ns : List Item) → made_by_items x (ms ++ ns) ≡ made_by_items x ms ++ made_by_items (under (behind_items x ms) x) ns
made_both x [] ns = refl
made_both x (m ∷ ms) ns =
    let y = under (m.adds x ++ x.env) x in
    ap (λ os. m.makes x ++ os) (made_both y ms ns) ∙ sym (append_assoc (m.makes x) (made_by_items y ms) (made_by_items (under (behind_items y ms) y) ns))

-- before the first item
none_added : (a : Parts) {G : Letters} {env : List Entry} {E : Choice → Environment} (at : Outside as_declared (sight a) G env E) → HasConstants a → AreNoted at.older a → ValuesAdded a at [] a env []
unfolding done_here
none_added a {G} {E = E} at constants noted = record {
  done = done_here no_names at constants noted (λ k. absurd k);
  alike = adds_none E G;
  more = [];
  added = [];
  grows = grows_none at;
  named = [];
  entries = no_entries;
  components = λ V c env loose agrees met. refl;
  values = λ c. tt;
  makes = λ c. refl;
}

-- one value
pub one_added : {a b : Parts} {G : Letters} {env after : List Entry} {E : Choice → Environment} {at : Outside as_declared (sight a) G env E} {m : Item} (v : ValueAdded a at m no_names b after) → ValuesAdded a at (m ∷ []) b after (v.entry ∷ [])
one_added {a} {b} {G} {E = E} {at = at} {m = m} v = record {
  done = done_one v.done;
  alike = one_outside v.done (λ H E' o. AddsAlike E E' G H) v.alike;
  more = v.entry ∷ [];
  added = v.named ∷ [];
  grows = one_outside v.done (λ H E' o. Grows at o (v.entry ∷ []) (v.named ∷ [])) v.grows;
  named = v.named ∷ [];
  entries = one_outside v.done (λ H E' o. EnvAs (SpecifiedAs b.store.nodes o.roots o.names) (DeclaredAs b.store.nodes o.roots o.names) (ExceptionAs b.store.nodes o.roots o.names) (v.entry ∷ []) (v.named ∷ [])) v.grows.entries;
  components = λ V c same loose agrees met. ap entries_in (then_nothing (m.components c)) ∙ one_each v.done v.shown V c same loose agrees met;
  values = λ c. values_then (m.components c) Done (v.values c) tt;
  makes = λ c. ap (λ os. os ++ []) (v.makes c);
}

never : ⊥ → ⊥
never k = k

-- values after others
pub added_then : {a b d : Parts} {G : Letters} {env mid after es fs : List Entry} {E : Choice → Environment} {at : Outside as_declared (sight a) G env E} {ms ns : List Item} (p : ValuesAdded a at ms b mid es) → ValuesAdded b p.done.outside ns d after fs → ValuesAdded a at (ms ++ ns) d after (es ++ fs)
added_then {d = d} {G = G} {es = es} {fs = fs} {E = E} {at = at} {ms = ms} {ns = ns} p q = record {
  done = done_then at.sound p.done q.done never never;
  alike = then_outside at.sound p.done q.done never never (λ H E' o. AddsAlike E E' G H) (adds_then p.alike q.alike);
  more = q.more ++ p.more;
  added = q.added ++ p.added;
  grows = then_outside at.sound p.done q.done never never (λ H E' o. Grows at o (q.more ++ p.more) (q.added ++ p.added)) (grows_both p.grows q.grows);
  named = p.named ++ q.named;
  entries = then_outside at.sound p.done q.done never never (λ H E' o. EnvAs (SpecifiedAs d.store.nodes o.roots o.names) (DeclaredAs d.store.nodes o.roots o.names) (ExceptionAs d.store.nodes o.roots o.names) (es ++ fs) (p.named ++ q.named))
      (env_append (SpecifiedAs d.store.nodes q.done.outside.roots q.done.outside.names) (DeclaredAs d.store.nodes q.done.outside.roots q.done.outside.names) (ExceptionAs d.store.nodes q.done.outside.roots q.done.outside.names) (entries_on q.grows p.entries) q.entries);
  components = then_each at.sound p.done q.done never never (λ x h k. both_entries x ms ns ∙ (λ i. h i ++ k i)) p.components q.components;
  values = λ c. values_both c ms ns (p.values c) (q.values (under (behind_items c ms) c));
  makes = λ c. made_both c ms ns ∙ ap (λ os. os ++ made_by_items (under (behind_items c ms) c) ns) (p.makes c) ∙ q.makes (under (behind_items c ms) c);
}

-- The call for a value adds it to the scene.
pub value_adds : {A F : Type 0} (r : Result A F) (a b : Parts) (s s' : Scene) (x : Operand) (nd : Bor Node) → x.node ≡ Some nd → OnOk r (GivesValue a b s.env s'.env x.number (node_view nd.now)) → OnOk r (AddsIf (token_in (node_view nd.now) 1) s s') → OnOk r (GivesAdded a b s s' (operand_view x))
value_adds (Err e) a b s s' x nd some gives adds = tt
value_adds (Ok u) a b s s' x nd some gives adds = λ G E carried aloud at constants older ns V c met known.
    let e = there x nd some in
    let t = node_view nd.now in
    let item : IsValueNode x.number t = subst (IsValuePart x.number) e carried in
    let here : AllMet E (sight a) G (λ y. items_ask y no_names (specification_at a.item (numbered x.number (place_of x.span) (inner t)) ++ ns)) V c =
    subst (λ p. AllMet E (sight a) G (λ y. items_ask y no_names (specification_at a.item (numbered x.number (place_of x.span) p) ++ ns)) V c) e met in
    let v = value_is_added a b s.env s'.env x.number (place_of x.span) t G E no_names item aloud at constants older gives ns V c here (subst (IsKnownValue c.chosen a.item x.number) e known item.row) in
    let z : AddsNewest s s' = subst (λ o. AddsIf o s s') item.named adds in
    let same : z.entry ≡ v.entry = (let f : z.entry ∷ s.env ≡ v.entry ∷ s.env = sym z.env ∙ v.scope in cc) in
    record {
      entry = v.entry;
      adds = subst (λ p. ValuesAdded a at (specification_at a.item (numbered x.number (place_of x.span) p)) b s'.env (v.entry ∷ [])) (sym e)
          (subst (λ ms. ValuesAdded a at ms b s'.env (v.entry ∷ [])) (sym (value_there a.item x.number (place_of x.span) t item)) (one_added v));
      components = z.components ∙ ap (λ y. shown.entries_of s.components.items ++ y ∷ []) same;
      makes = z.makes;
    }

-- what is missing is none
pub missing_is_none : {A F : Type 0} (r : Result A F) (a b : Parts) (s s' : Scene) (x : Operand) → x.node ≡ None → OnOk r (GivesAdded a b s s' (operand_view x))
missing_is_none (Err e) a b s s' x none = tt
missing_is_none (Ok v) a b s s' x none = λ G E carried aloud at constants older ns V c met known. absurd (subst (IsValuePart x.number) (ap (λ o. part_of o x.span) none) carried)

-- an item of another row is none
pub other_is_none : {A F : Type 0} (r : Result A F) (a b : Parts) (s s' : Scene) (x : Operand) (nd : Bor Node) → x.node ≡ Some nd → ((out-Node nd.now).row ≡ name.Val → ⊥) → OnOk r (GivesAdded a b s s' (operand_view x))
other_is_none (Err e) a b s s' x nd some no_val = tt
other_is_none (Ok v) a b s s' x nd some no_val = λ G E carried aloud at constants older ns V c met known.
    let item : IsValueNode x.number (node_view nd.now) = subst (IsValuePart x.number) (there x nd some) carried in
    absurd (no_val (only_val (out-Node nd.now).row (sym (row_there nd.now) ∙ item.row)))

-- A value with a name adds it to the scene.
pub adds_newest : {A F : Type 0} (r : Result A F) (s s' : Scene) (t : Tree) (name : Tok) (e : Entry) → token_in t 1 ≡ Some name → OnOk r (s'.env ≡ e ∷ s.env) → OnOk r (shown.entries_of s'.components.items ≡ shown.entries_of s.components.items ++ e ∷ []) → s'.makes ≡ s.makes → OnOk r (AddsIf (token_in t 1) s s')
adds_newest (Err x) s s' t name e named env components makes = tt
adds_newest (Ok v) s s' t name e named env components makes = subst (λ o. AddsIf o s s') (sym named) (record { entry = e; env = env; components = components; makes = makes })

-- before the first item of a signature
pub added_start : (a : Parts) (env : List Entry) (s : Scene) (all : List Numbered) → s.env ≡ env → s.components.items ≡ [] → s.makes.items ≡ [] → GivesAddedFirst a a env s all all
added_start a env s all same none makes G E values aloud at constants older V c met known = record {
  items = [];
  adds = subst (λ es. ValuesAdded a at [] a es (shown.entries_of s.components.items)) (sym same) (subst (λ cs. ValuesAdded a at [] a env (shown.entries_of cs)) (sym none) (none_added a at constants older));
  splits = refl;
  values = values;
  known = known;
  makes = makes;
}

-- one item more
pub added_next : (a b d : Parts) (env : List Entry) (s s' : Scene) (all : List Numbered) (os : List Operand) (i : ℕ) (x : Operand) → i < length os → x ≡ slice_index_or os i x → Goes a b → GivesAddedFirst a b env s all (map operand_view (drop i os)) →
    GivesAdded b d s s' (operand_view x) → GivesAddedFirst a d env s' all (map operand_view (drop (i + 1) os))
added_next a b d env s s' all os i x lt here goes first gives G E values aloud at constants older V c met known =
    let later = map operand_view (drop (i + 1) os) in
    let cut : drop i os ≡ x ∷ drop (i + 1) os = drop_more os i x lt ∙ ap (λ o. o ∷ drop (i + 1) os) (sym here) in
    let f : AddsFirst a at c.chosen b s all (operand_view x ∷ later) = subst (λ us. AddsFirst a at c.chosen b s all (map operand_view us)) cut (first G E values aloud at constants older V c met known) in
    let rest = specifications_at a.item later in
    let left : f.items ++ (specification_at b.item (operand_view x) ++ rest) ≡ specifications_at a.item all = ap (λ n. f.items ++ (specification_at n (operand_view x) ++ rest)) goes.item ∙ f.splits in
    let m = met_after f.adds.done (specification_at b.item (operand_view x) ++ rest) V c (subst (λ ms. AllMet E (sight a) G (λ y. items_ask y no_names ms) V c) (sym left) met) in
    let done = f.adds.done in
    let g = gives done.letters done.env f.values.0 (ap is_aloud goes.telling ∙ aloud) done.outside done.constants done.noted rest m.types _ m.met (subst (λ n. IsKnownValue c.chosen n x.number (operand_view x).part) (sym goes.item) f.known.0) in
    record {
      items = f.items ++ specification_at b.item (operand_view x);
      adds = subst (λ es. ValuesAdded a at (f.items ++ specification_at b.item (operand_view x)) d s'.env es) (sym g.components) (added_then f.adds g.adds);
      splits = append_assoc f.items (specification_at b.item (operand_view x)) rest ∙ left;
      values = f.values.1;
      known = f.known.1;
      makes = ap (λ v. v.items) g.makes ∙ f.makes;
    }

-- all items are added
pub added_end : (a b : Parts) (env : List Entry) (s : Scene) (all : List Numbered) (os : List Operand) (i : ℕ) → length os ≤ i → GivesAddedFirst a b env s all (map operand_view (drop i os)) → GivesAllAdded a b env all (shown.entries_of s.components.items) s.makes.items
added_end a b env s all os i past first G E values aloud at constants older V c met known =
    let f : AddsFirst a at c.chosen b s all [] = subst (λ us. AddsFirst a at c.chosen b s all (map operand_view us)) (drop_all i os past) (first G E values aloud at constants older V c met known) in
    (s.env, subst (λ ms. ValuesAdded a at ms b s.env (shown.entries_of s.components.items)) (sym (append-nil f.items) ∙ f.splits) f.adds, f.makes)

-- After the signature the names of before are in scope again, with that of a module whose signature stands for one of the definitions by the roots that were added.
pub module_starts : {a b : Parts} {G : Letters} {env after shown_here : List Entry} {E : Choice → Environment} {at : Outside as_declared (sight a) G env E} {ms : List Item} (p : ValuesAdded a at ms b after shown_here) (e : Entry) (f : Named) (s : Rc Sig Global) (S : Signature) → e.what ≡ what.Module s → f.name ≡ str_bytes e.name →
    kind_named f.stands_for ≡ kind_of e.kind → defined_at e.place ≡ f.place → f.stands_for ≡ a_module S →
    SigAs (SpecifiedAs b.store.nodes p.done.outside.roots p.done.outside.names) (DeclaredAs b.store.nodes p.done.outside.roots p.done.outside.names) (ExceptionAs b.store.nodes p.done.outside.roots p.done.outside.names) s.value S → StartsAfter at (sight b) p.done.letters (e ∷ []) (f ∷ []) p.done.outside.older
module_starts {b = b} {at = at} p e f s S is name kind placed stands sig =
    let R = p.done.outside.roots in
    let N = p.done.outside.names in
    outside_within at p.done.outside p.grows p.done.carried.stays.given (e ∷ []) (f ∷ [])
    (newest (entry_as name kind placed (subst (WhatAs (SpecifiedAs b.store.nodes R N) (DeclaredAs b.store.nodes R N) (ExceptionAs b.store.nodes R N) e.what) (sym stands) (of_module is sig))) no_entries)

-- The signature of the module is one, whatever meets what the values ask, made anew at any node.
pub module_signature : {a b : Parts} {G : Letters} {env after shown_here : List Entry} {E : Choice → Environment} {at : Outside as_declared (sight a) G env E} {ms : List Item} (p : ValuesAdded a at ms b after shown_here) (u : ℕ) →
    InEachMet E (λ c. items_ask c no_names ms) (sight b) p.done.letters p.done.carried.judged (λ c. made_at (template (made_by_items c ms) (signature_of_items c ms)) u ≡ Structure (newest_alone (values_by p.named)))
module_signature {ms = ms} p u V c same loose agrees met =
    let comps : components_of_items c ms ≡ values_by p.named = sym (values_back (components_of_items c ms) (p.values c)) ∙ ap values_by (p.components V c same loose agrees met) in
    let none = p.makes c in
    (λ i. made_at (template (none i) (Structure (newest_alone (comps i)))) u) ∙ made_nothing (Structure (newest_alone (values_by p.named))) u
