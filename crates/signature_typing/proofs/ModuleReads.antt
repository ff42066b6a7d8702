-- A module of a signature of values: what is read of it, and the item that it gives.
use Rattle.std.proofs.Common.{◌≡◌, ◌∙◌, inl, inr, ℕ, not, List, [], ◌∷◌, ◌++◌, map, Option, Some, None, refl, sym, ap, subst}
use Rattle.std.specs.Prelude.{Result, Ok, Err, IfOk, option_map}
use Rattle.std.specs.declared.rc.Rc.{Rc}
use Rattle.std.specs.declared.alloc.Global.{Global}
use denote.Ref.{Bor}
use Rattle.token_model.specs.Kinds.{Tok}
use Rattle.tree_model.specs.Trees.{Tree}
use Rattle.tree_model.specs.Extents.{extent_of}
use Rattle.signature_model.specs.Entries.{Environment, entries_in}
use Rattle.signature_model.specs.Signatures.{Structure}
use Rattle.typing_model.specs.Contexts.{Choice, Context, under}
use Rattle.typing_model.specs.Items.{items_ask, components_of_items, newest_alone}
use Rattle.typing_model.specs.Parts.{Item, Seen, no_names, seen_too, place_of}
use Rattle.typing_model.specs.Records.{is_among}
use Rattle.syntax_tree.specs.declared.Token.{Token}
use Rattle.syntax_tree.specs.declared.rows.RowName.TheVariants as name
use Rattle.syntax_tree.specs.declared.tree.Node.{Node, out-Node}
use Rattle.syntax_tree.specs.View.{node_view, tok_of}
use Rattle.row_parts.specs.declared.slots.Operand.{Operand}
use Rattle.row_parts.specs.Numbered.{part_of, operands_in, filled_in, token_in, operand_view}
use Rattle.type_terms.specs.declared.types.Origin.{Origin}
use Rattle.type_nodes.specs.Readings.{Types}
use Rattle.level_unify.proofs.Unified.{fits_loosely}
use Rattle.env_table.specs.declared.entries.Entry.{Entry}
use Rattle.env_table.specs.declared.entries.Kind.TheVariants as kind
use Rattle.env_table.specs.declared.entries.Sig.{Sig}
use Rattle.env_table.specs.declared.entries.Template.{Template, out-Template}
use Rattle.env_table.specs.declared.entries.What.TheVariants as what
use Rattle.env_table.specs.declared.faults.FaultKind.TheVariants as fault
use Rattle.typing_state.specs.declared.parts.Parts.{Parts}
use Rattle.typing_state.specs.Goes.{Goes, OnlyFaults, OnlyIndex}
use Rattle.typing_state.specs.Messages.{twice_text}
use Rattle.typing_state.specs.Notes.{NotedNameless}
use Rattle.operand_laws.specs.Operands.{number_of}
use Rattle.typing_conditions.specs.Declared.{DeclaredAs, ExceptionAs}
use Rattle.typing_conditions.specs.Environments.{defined_at, EnvAs, SigAs}
use Rattle.typing_conditions.specs.Judging.{judgements, AreKept}
use Rattle.typing_conditions.specs.Sights.{Letters}
use Rattle.typing_conditions.specs.Steps.{IsTold}
use Rattle.typing_conditions.proofs.Judged.{hold_left, judged_both, judged_kept}
use Rattle.typing_steps.specs.States.{is_aloud, sight}
use Rattle.typing_steps.specs.Typing.{as_declared}
use Rattle.typing_steps.proofs.Seeing.{only_reports}
use Rattle.typing_steps.proofs.Starting.{constants_kept}
use Rattle.typing_rows.specs.Noted.{AreNoted}
use Rattle.typing_rows.proofs.Noted.{noted_on}
use Rattle.binding_rows.specs.ItemRows.{ItemsDone}
use Rattle.binding_rows.specs.Outside.{InEachMet, Outside}
use Rattle.binding_rows.proofs.ItemKinds.{noted_between}
use Rattle.binding_rows.proofs.ItemOrders.{outside_between}
use Rattle.first_laws.specs.Declaring.{SpecifiedAs}
use Rattle.declared_items.specs.Adding.{ItemAdded, ItemsAdded}
use Rattle.declared_items.proofs.Adding.{items_added_one}
use Rattle.sig_template.specs.Structures.{IsStructureOf}
use Rattle.sig_template.specs.Structures as code
use Rattle.sig_template.specs.Ways.{sig_of}
use Rattle.sig_template.specs.Changed.{made_of}
use Rattle.module_steps.specs.declared.functors.Taken.{Taken}
use Rattle.module_steps.specs.declared.scenes.Scene.{Scene}
use Rattle.module_steps.specs.Modules.{env_behind}
use Rattle.module_steps.specs.Scenes.{has_name, SameNames, OnlyNames, AsksNew, AddsNamed}
use Rattle.signature_typing.specs.declared.signatures.Kept.{Kept}
use Rattle.signature_typing.specs.ModuleTypes.{IsTemplateOf}
use Rattle.signature_typing.specs.ValueItems.{AreValues, items_within, IsValuesSignature, IsValuesModuleNode, values_of}
use Rattle.signature_typing.specs.Specifications.{specifications_at, AreKnownValues, AreSure, AllMet, GivesValuesModule}
use Rattle.signature_typing.specs.ValueSignatures.{ValuesAdded, GivesAllAdded, ValuesRead, GivesStructure, GivesModule}
use Rattle.signature_typing.proofs.NodeRows.{row_there, only_signature}
use Rattle.signature_typing.proofs.Newest.{values_by, values_back, values_signature}
use Rattle.signature_typing.proofs.Specifications.{never_sure, sure_left}
use Rattle.signature_typing.proofs.SpecificationSteps.{seen_same, there}
use Rattle.signature_typing.proofs.ModuleItems.{recorded_module, module_done}
use Rattle.signature_typing.proofs.ModuleTerms.{module_there}
use Rattle.signature_typing.proofs.Asking.{starts_told, enters_same, name_asked, told_new, names_between, names_after}

-- What holds in each context in which items are met holds in one that is known.
in_met : {E : Choice → Environment} {ms : List Item} {seen names : Seen} {a b : Parts} {G : Letters} {after : List Entry} (p : ItemsDone as_declared ⊥ E ms seen names a b G after) (V : Types) (c : Context) (P : Context → Type 0) → AllMet E (sight a) G (λ x. items_ask x seen ms) V c →
    InEachMet E (λ x. items_ask x seen ms) (sight b) p.letters p.carried.judged P → P c
in_met {ms = ms} {seen = seen} {b = b} p V c P m each = elim (p.carried.complete V c m.enters m.holds) [
  | inl goes ↦ each goes.types c m.enters.env (fits_loosely b.store.nodes goes.types goes.fits) goes.agrees (record { kept = subst (AreKept c.kept) goes.same (judged_kept c.kept (items_ask c seen ms)); holds = m.holds })
  | inr short ↦ absurd (never_sure (judgements c.kept (items_ask c seen ms)) p.carried.judged m.sure short)
]

-- The structure of the newest of each name stands for the definitions' signature of the values.
structure_as : {a b : Parts} {G : Letters} {env after shown : List Entry} {E : Choice → Environment} {at : Outside as_declared (sight a) G env E} {ms : List Item} (p : ValuesAdded a at ms b after shown) (V : Types) (c : Context) → AllMet E (sight a) G (λ x. items_ask x no_names ms) V c →
    (s : Sig) → IsStructureOf s (code.newest_alone shown) → SigAs (SpecifiedAs b.store.nodes p.done.outside.roots p.done.outside.names) (DeclaredAs b.store.nodes p.done.outside.roots p.done.outside.names) (ExceptionAs b.store.nodes p.done.outside.roots p.done.outside.names) s (Structure (newest_alone (values_by p.named)))
structure_as {b = b} {shown = shown} {ms = ms} p V c m s (k, is, kept) =
    let S = SpecifiedAs b.store.nodes p.done.outside.roots p.done.outside.names in
    let D = DeclaredAs b.store.nodes p.done.outside.roots p.done.outside.names in
    let X = ExceptionAs b.store.nodes p.done.outside.roots p.done.outside.names in
    let cs = components_of_items c ms in
    let here : entries_in cs ≡ p.named = in_met p.done V c (λ x. entries_in (components_of_items x ms) ≡ p.named) m p.components in
    let same : cs ≡ values_by p.named = sym (values_back cs (p.values c)) ∙ ap values_by here in
    subst (λ ds. SigAs S D X s (Structure (newest_alone ds))) same (values_signature cs (p.values c) (subst (EnvAs S D X shown) (sym here) p.entries) s k is kept)

-- a template of no origins makes nothing
none_made : (t : Template) (os : List Origin) → (out-Template t).made.items ≡ os → os ≡ [] → made_of t ≡ []
none_made t os e none = ap (map (λ (o : Origin). o.path.items)) (e ∙ none)

-- A signature of values is read: its node is recorded, its items are typed, and its template is made of them.
pub signature_read : {F : Type 0} (r : Result (Rc Template Global) F) (a k b : Parts) (env : List Entry) (x : Operand) (nd : Bor Node) (os : List Operand) (kept : Kept) → x.node ≡ Some nd → NotedNameless a k x.number env None → OnlyIndex a k → Goes a k → map operand_view os ≡ operands_in x.number (node_view nd.now) 1 →
    GivesAllAdded k b env (map operand_view os) (code.entries_of kept.components.items) kept.makes.items → IfOk r (λ t. IsTemplateOf (code.entries_of kept.components.items) kept.makes.items t.value) → IfOk r (λ t. GivesStructure a b env (operand_view x) t.value)
unfolding outside_between
signature_read (Err e) a k b env x nd os kept some noted rest goes all gives made = tt
signature_read (Ok t) a k b env x nd os kept some noted rest goes all gives made = λ G E values aloud at constants older V c met known.
    let only = noted_between a k x.number env noted rest in
    let n = x.number in
    let within : items_within n (part_of x.node x.span) ≡ map operand_view os = ap (items_within n) (there x nd some) ∙ sym all in
    let are : AreValues (map operand_view os) = subst AreValues (sym all) (subst (IsValuesSignature n) (there x nd some) values).1 in
    let begun : AllMet E (sight k) G (λ y. items_ask y no_names (specifications_at a.item (items_within n (part_of x.node x.span)))) V c = record { enters = enters_same only.nodes only.types met.enters; holds = met.holds; sure = met.sure } in
    let here : AllMet E (sight k) G (λ y. items_ask y no_names (specifications_at k.item (map operand_view os))) V c =
    subst (λ us. AllMet E (sight k) G (λ y. items_ask y no_names (specifications_at k.item us)) V c) within (subst (λ i. AllMet E (sight k) G (λ y. items_ask y no_names (specifications_at i (items_within n (part_of x.node x.span)))) V c) (sym goes.item) begun) in
    let sure : AreKnownValues c.chosen k.item (map operand_view os) = subst (AreKnownValues c.chosen k.item) within (subst (λ i. AreKnownValues c.chosen i (items_within n (part_of x.node x.span))) (sym goes.item) known) in
    let (after, adds, none) = gives G E are (ap is_aloud goes.telling ∙ aloud) (outside_between only at) (constants_kept a k goes constants) (noted_on at.older older goes) V c here sure in (
      record {
        begun = k;
        only = only;
        outside = outside_between only at;
        after = after;
        shown = code.entries_of kept.components.items;
        adds = subst (λ ms. ValuesAdded k (outside_between only at) ms b after (code.entries_of kept.components.items)) (ap (λ i. specifications_at i (map operand_view os)) goes.item ∙ ap (specifications_at a.item) (sym within)) adds;
        is = made.1;
      },
      none_made t.value kept.makes.items made.0 none,
    )

-- a module type of another row is none
pub other_structure : {F : Type 0} (r : Result (Rc Template Global) F) (a b : Parts) (env : List Entry) (x : Operand) (nd : Bor Node) → x.node ≡ Some nd → ((out-Node nd.now).row ≡ name.Ysig → ⊥) → IfOk r (λ t. GivesStructure a b env (operand_view x) t.value)
other_structure (Err e) a b env x nd some other = tt
other_structure (Ok t) a b env x nd some other = λ G E values aloud at constants older V c met known.
    absurd (other (only_signature (out-Node nd.now).row (sym (row_there nd.now) ∙ (subst (IsValuesSignature x.number) (there x nd some) values).0)))

-- nor is one that is missing
pub missing_structure : {F : Type 0} (r : Result (Rc Template Global) F) (a b : Parts) (env : List Entry) (x : Operand) → x.node ≡ None → IfOk r (λ t. GivesStructure a b env (operand_view x) t.value)
missing_structure (Err e) a b env x none = tt
missing_structure (Ok t) a b env x none = λ G E values aloud at constants older V c met known. absurd (subst (IsValuesSignature x.number) (ap (λ o. part_of o x.span) none) values)

-- The module of an item without parameters is what its signature gives.
pub module_read : (a p b d : Parts) (env inside : List Entry) (n : ℕ) (t : Tree) (os : List Operand) (taken : List Taken) (y : Operand) (m : Template) (s : Sig) → map operand_view os ≡ operands_in n t 5 → (os ≡ [] → (taken ≡ []) × (p ≡ a)) → inside ≡ env_behind taken env → operand_view y ≡ filled_in n t 8 →
    GivesStructure p b inside (operand_view y) m → (taken ≡ [] → made_of m ≡ [] → (s ≡ sig_of m) × (d ≡ b)) → GivesModule a d env n t s
module_read a p b d env inside n t os taken y m s all empty behind here gives own = λ G E x aloud at constants older V c met known.
    let none = empty (nothing os (all ∙ x.alone)) in
    let names : inside ≡ env = behind ∙ ap (λ ps. env_behind ps env) none.0 in
    let g : GivesStructure a b env (filled_in n t 8) m = subst (λ q. GivesStructure q b env (filled_in n t 8) m) none.1 (subst (λ es. GivesStructure p b es (filled_in n t 8) m) names (subst (λ o. GivesStructure p b inside o m) here gives)) in
    let (read, made) = g G E x.values aloud at constants older V c met known in
    let same = own none.0 made in
    subst (λ q. ValuesRead a G env E (specifications_at a.item (values_of n t)) q s) (sym same.1) (subst (ValuesRead a G env E (specifications_at a.item (values_of n t)) b) (sym same.0) read)
  where
    nothing : (us : List Operand) → map operand_view us ≡ [] → us ≡ []
    nothing [] e = refl
    nothing (u ∷ us) e = absurd (cc)

-- What the definitions ask of the values in a module is met where what they ask of the module is.
values_met : {E : Choice → Environment} (a b : Parts) {G : Letters} (n y : ℕ) (x : Tok) (seen : Seen) (ms ns : List Item) (V : Types) (c : Context) → b.store.nodes ≡ a.store.nodes → ((i p : ℕ) → (sight b).types i p ≡ (sight a).types i p) → AllMet E (sight a) G (λ z. items_ask z seen (recorded_module n y x ms ∷ ns)) V c → AllMet E (sight b) G (λ z. items_ask z no_names ms) V c
values_met a b n y x seen ms ns V c nodes types met =
    let m = recorded_module n y x ms in
    let within = items_ask c no_names ms in
    let rest = items_ask (under (m.adds c ++ c.env) c) (seen_too seen (m.named c)) ns in
    record {
      enters = enters_same nodes types met.enters;
      holds = hold_left c.kept within rest met.holds.1.1.1;
      sure = sure_left (judgements c.kept within) (judgements c.kept rest) (subst AreSure (judged_both c.kept within rest) met.sure.2);
    }

-- The module is an item that is done: its name is asked, what it is is read, and it is named.
pub module_specified : (a p b d : Parts) (s s1 s2 s3 : Scene) (n : ℕ) (t : Tree) (token : Option (Bor Token)) (m : Rc Sig Global) (params : List (Option Entry)) → option_map (λ (w : Bor Token). tok_of w.now) token ≡ token_in t 1 → AsksNew (option_map (λ (w : Bor Token). w.now) token) kind.Module s s1 a p → OnlyNames s s1 → OnlyFaults a p → Goes a p →
    GivesModule p b s1.env n t m.value → AddsNamed (option_map (λ (w : Bor Token). w.now) token) s1 s2 b d n kind.Module (what.Module m) params → SameNames s1 s2 → OnlyIndex b d → Goes b d → s3.env ≡ s2.env → SameNames s2 s3 → GivesValuesModule a d s s3 n t
module_specified a p b d s s1 s2 s3 n t None m params named asks names faults goes gives adds same rest goes_on env same_on = λ G E seen x aloud at constants older standing ns V c met known. absurd (let e : Some x.name ≡ None = sym x.named ∙ sym named in cc)
module_specified a p b d s s1 s2 s3 n t (Some w) m params named asks names faults goes gives adds same rest goes_on env same_on = λ G E seen old aloud at constants older standing ns V c met known.
    let x : IsValuesModuleNode n t = record { formed = old.formed; row = old.row; name = tok_of w.now; named = sym named; alone = old.alone; values = old.values } in
    let N = number_of a.item n in
    let Y = number_of a.item (filled_in n t 8).number in
    let ms = specifications_at a.item (values_of n t) in
    let item = module_there a.item n (extent_of t).span t x in
    let only = only_reports a p faults in
    let all : AllMet E (sight a) G (λ z. items_ask z seen (recorded_module N Y x.name ms ∷ ns)) V c = subst (λ is_. AllMet E (sight a) G (λ z. items_ask z seen (is_ ++ ns)) V c) item met in
    let inside : AllMet E (sight p) G (λ z. items_ask z no_names ms) V c = values_met a p N Y x.name seen ms ns V c only.nodes only.types all in
    let start = starts_told at only in
    let read : ValuesRead p G s.env E ms b m.value =
    subst (λ i. ValuesRead p G s.env E (specifications_at i (values_of n t)) b m.value) goes.item (subst (λ es. GivesModule p b es n t m.value) names.env gives G E x (ap is_aloud goes.telling ∙ aloud) start.outside (constants_kept a p goes constants) (subst (λ U. AreNoted U p) (sym start.older) (noted_on at.older older goes)) V c
    (subst (λ i. AllMet E (sight p) G (λ z. items_ask z no_names (specifications_at i (values_of n t))) V c) (sym goes.item) inside) (subst (λ i. AreKnownValues c.chosen i (values_of n t)) (sym goes.item) known)) in
    let sig = structure_as read.adds V c (record { enters = enters_same read.only.nodes read.only.types inside.enters; holds = inside.holds; sure = inside.sure }) m.value read.is in
    let told : IsTold (sight a) (sight p) (place_of x.name) fault.Unique (twice_text x.name.name) (not (is_among x.name.name seen.modules)) =
    subst (λ again. IsTold (sight a) (sight p) (place_of x.name) fault.Unique (twice_text x.name.name) (not again)) (standing.modules x.name.name) (told_new a p w.now.span x.name.name (has_name s kind.Module x.name.name) aloud asks.0) in
    let last = (let (v, is, noted) = adds.noted in names_between b d n (record { env = s1.env; ty = None; names = v }) noted refl rest) in
    let one : ItemAdded E (recorded_module N Y x.name ms) seen (record no_names { modules = x.name.name ∷ [] }) a d G (adds.entry ∷ s.env) =
    module_done a p read.begun b d at N Y x.name seen ms (name_asked at N seen.modules x.name only told) (record { types = only.types }) read.only read.outside read.adds last (constants_kept b d goes_on read.adds.done.constants) (noted_on read.adds.done.outside.older read.adds.done.noted goes_on) adds.entry m adds.is.what adds.is.name adds.is.kind (ap defined_at adds.is.place) sig in
    let after : adds.entry ∷ s.env ≡ s3.env = sym (env ∙ adds.env ∙ ap (λ es. adds.entry ∷ es) names.env) in
    let names_now = seen_too seen (record no_names { modules = x.name.name ∷ [] }) in
    record {
      names = names_now;
      added = subst (λ is_. ItemsAdded E is_ seen names_now a d G s3.env) (sym item) (subst (ItemsAdded E (recorded_module N Y x.name ms ∷ []) seen names_now a d G) after (items_added_one one));
      standing = seen_same {s = s2} {s' = s3} same_on (seen_same {s = s1} {s' = s2} same (names_after {s = s} {s' = s1} x.name.name asks.1 standing));
    }
