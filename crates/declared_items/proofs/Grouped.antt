-- The names of a group of one type of its own are in scope inside it: they are put there where nothing is reported.
use Rattle.std.proofs.Common.{◌≡◌, ◌∙◌, List, [], ◌∷◌, ◌++◌, reverse, Option, Some, None, refl, sym, ap, subst}
use Rattle.std.specs.declared.rc.Rc.{Rc}
use Rattle.std.specs.declared.alloc.Global.{Global}
use Rattle.env_table.specs.declared.entries.Declaration.{Declaration}
use Rattle.env_table.specs.declared.entries.Entry.{Entry}
use Rattle.typing_state.specs.declared.parts.Parts.{Parts}
use Rattle.typing_state.specs.declared.parts.Telling.{Telling}
use Rattle.typing_state.specs.declared.parts.Telling.TheVariants.{Quiet}
use Rattle.typing_state.specs.Goes.{Goes, OnlyIndex, OnlyStore}
use Rattle.typing_conditions.specs.Frames.{Frame, Reaches}
use Rattle.typing_steps.specs.States.{sight, is_aloud, fixed_of, reports_of}
use Rattle.type_expressions.specs.Untyped.{Untyped}
use Rattle.typing_rows.proofs.Noted.{still_noted}
use Rattle.binding_rows.proofs.ItemKinds.{still_scoped}
use Rattle.declared_rows.specs.Assignments.{Assignment, Assigns}
use Rattle.binding_rows.specs.Outside.{OnlyBetween}
use Rattle.decl_groups.specs.declared.groups.DeclarationPart.{DeclarationPart}
use Rattle.decl_typing.specs.declared.decls.Declared.{Declared}
use Rattle.decl_typing.specs.Denoting.{raised}
use Rattle.decl_typing.specs.Entering.{alone, entered}
use Rattle.decl_typing.specs.Entries.{TypeEntryIf, values_of, EntersNames, no_parts, no_more, one_name, QuietlyEntered}
use Rattle.decl_typing.specs.Groups.{DeclaresOwn, DeclaresEach, none_declared, one_declared, DeclaresGroup}
use Rattle.decl_typing.specs.Owned.{RootClosed, MakesOpaque, AreOpaque, none_opaque, one_opaque}

-- where faults are reported or not is no matter of what is reached, or assigned
same_reached : {F : Frame} (a : Parts) (t : Telling) → Reaches F (sight (raised a)) → Reaches F (sight (raised (record a { telling = t })))
same_reached a t r = record { frame = r.frame; sound = r.sound; level = r.level; held = r.held; only_held = r.only_held; local = r.local }

same_assigns : {F : Frame} (a : Parts) (t : Telling) {U : List _} {A : Assignment} → Assigns F 0 U (sight (raised a)) A → Assigns F 0 U (sight (raised (record a { telling = t }))) A
same_assigns a t h = record {
  reached = same_reached a t h.reached;
  loose = h.loose;
  opens = λ m i. let o = h.opens m i in record { reached = same_reached a t o.reached; inside = o.inside; within = o.within; free = o.free };
  each = h.each;
  taken = h.taken;
  apart = h.apart;
}

same_closed : {F : Frame} (a c : Parts) (t u : Telling) {U : List _} {A : Assignment} {p : DeclarationPart} {root : _} → RootClosed F U (record a { telling = t }) c A p root → RootClosed F U a (record c { telling = u }) A p root
same_closed a c t u r = record {
  before = r.before;
  to = record {
    on = record { after = r.to.on.after; assigns = r.to.on.assigns; same = r.to.on.same; keeps = r.to.on.keeps; older = r.to.on.older; longer = r.to.on.longer; reads = r.to.on.reads };
    denotes = r.to.denotes;
  };
  closes = r.closes;
  sound = r.sound;
  plain = r.plain;
  level = r.level;
}

-- so it is with a declaration of which nothing is told yet
loud : (a c : Parts) (t u : Telling) {p : DeclarationPart} {x : Declaration} → MakesOpaque (record a { telling = t }) c p x → MakesOpaque a (record c { telling = u }) p x
loud a c t u m = record {
  closes = λ level F U A assigns. same_closed a c t u (m.closes level F U A (same_assigns a t assigns));
  shape = m.shape;
  arity = m.arity;
  origin = m.origin;
  defines = m.defines;
}

-- The name of one type of its own is put in scope, if it has one.
pub record NameEntered (a b : Parts) (p : DeclarationPart) (env inner : List Entry) : Type 0 where
  pub declaration : Declaration
  pub entry : Option (Rc Entry Global)
  pub makes : MakesOpaque a b p declaration
  pub rest : OnlyStore a b
  pub named : TypeEntryIf declaration p.name entry
  pub scope : inner ≡ values_of (alone entry) ++ env

-- no more names are entered
ended : {ds : List (Rc Declaration Global)} {env after : List Entry} → EntersNames [] ds env after → after ≡ env
ended no_parts = refl
ended no_more = refl

entered_alone : (e : Option (Rc Entry Global)) (env : List Entry) → entered e env ≡ values_of (alone e) ++ env
entered_alone None env = refl
entered_alone (Some x) env = refl

opaque_entered : {a c : Parts} {p : DeclarationPart} {ds : List (Rc Declaration Global)} {env inner : List Entry} → AreOpaque a c (p ∷ []) ds → EntersNames (p ∷ []) ds env inner → NameEntered a c p env inner
opaque_entered {env = env} (one_opaque {d = d} makes only none_opaque) (one_name e named rest) = record {
  declaration = d.value;
  entry = e;
  makes = makes;
  rest = only;
  named = named;
  scope = ended rest ∙ entered_alone e env;
}

-- So it is in a group of one, where nothing is reported in between.
pub name_entered : {a b : Parts} {p : DeclarationPart} {env inner : List Entry} → QuietlyEntered a b (p ∷ []) env inner → NameEntered a b p env inner
name_entered {a} {b} {p} {env} {inner} (c, group, is) =
    let n = opaque_entered group.are group.names in
    subst (λ z. NameEntered a z p env inner) (sym is) (record {
      declaration = n.declaration;
      entry = n.entry;
      makes = loud a c Quiet a.telling n.makes;
      rest = record { index = n.rest.index; faults = n.rest.faults; written = n.rest.written; item = n.rest.item; level = n.rest.level; telling = refl; constants = n.rest.constants };
      named = n.named;
      scope = n.scope;
    })

-- A group of one type of its own is declared: its name is put in scope, and then it is declared there and adds its entries to the names before it.
pub record OneDeclared (env : List Entry) (a c : Parts) (p : DeclarationPart) (d : Declared) : Type 0 where
  pub begun : Parts
  pub inner : List Entry
  pub name : NameEntered a begun p env inner
  pub untyped : Untyped a begun
  pub goes : Goes a begun
  pub own : DeclaresOwn (values_of (alone name.entry) ++ env) begun c p [] d.entries.items
  pub behind : d.env ≡ reverse (values_of d.entries.items) ++ env

one_each : {inner : List Entry} {a c : Parts} {p : DeclarationPart} {es fs : List (Rc Entry Global)} → DeclaresEach inner a c (p ∷ []) es fs → DeclaresOwn inner a c p es fs
one_each (one_declared own none_declared) = own

pub group_one : {env : List Entry} {a c : Parts} {p : DeclarationPart} {d : Declared} → DeclaresGroup env a c (p ∷ []) d → OneDeclared env a c p d
group_one {env} {a} {c} {p} {d} g =
    let name = name_entered g.group in
    record {
      begun = g.begun;
      inner = g.inner;
      name = name;
      untyped = g.untyped;
      goes = g.goes;
      own = subst (λ es. DeclaresOwn es g.begun c p [] d.entries.items) name.scope (one_each g.adds.each);
      behind = g.adds.behind;
    }

-- A call that records something for nodes, and no type, is between items.
pub index_between : {a b : Parts} → OnlyIndex a b → Untyped a b → Goes a b → OnlyBetween (sight a) (sight b)
index_between rest untyped goes = record {
  nodes = ap (λ s. s.nodes) rest.store;
  types = untyped.types;
  noted = still_noted goes;
  scopes = still_scoped goes;
  reports = ap (λ f. reports_of f.list.items) rest.faults;
  aloud = ap is_aloud rest.telling;
  level = rest.level;
  fixed = ap fixed_of rest.constants;
}
