-- The faults of items that are `let`, `;;` and exceptions without an argument: one for each demand that isn't kept, in order.
use Rattle.std.proofs.Common.{◌≡◌, ◌∙◌, inl, inr, ℕ, suc, ◌<◌, ◌^◌, Bool, true, false, Option, None, Some, List, [], ◌∷◌, ◌++◌, map, length, refl, sym, ap, subst, arith, if◌then◌else◌}
use Rattle.std.specs.List.{AllZip}
use Rattle.std.specs.Prelude.{All, slice_get}
use Rattle.std.proofs.lemmas.List.{length-map}
use Rattle.std.proofs.lemmas.List.Elements.{All-head, All-tail}
use Rattle.tree_model.specs.Rows as rows
use Rattle.tree_model.specs.Rows.{Row}
use Rattle.tree_model.specs.Trees.{Place, Tree, node, inner, size_of}
use Rattle.signature_model.specs.Entries.{Environment}
use Rattle.typing_laws.proofs.Bools.{no_yes, and_cases}
use Rattle.typing_model.specs.First.{IsFirst}
use Rattle.typing_model.specs.Plain.{is_let_row, has_lets_alone, is_value_row, has_values_alone}
use Rattle.fault_model.specs.Values.{is_bare_item, are_bare}
use Rattle.parsed_rows.proofs.Bare.{constructor_bare}
use Rattle.demand_laws.proofs.Left.{left_counted}
use Rattle.typing_model.specs.Meanings.{items_of}
use Rattle.typing_model.specs.Typings.{conditions_of}
use Rattle.typing_model.specs.Contexts.{Choice}
use Rattle.type_nodes.specs.Nodes.{IsPlain, IsSound}
use Rattle.typing_model.specs.Demands.{Site, Complaint, Demand, equal, test, agrees, matches, closes, Condition, same, instance, made, known, demand, treated}
use Rattle.typing_model.specs.Demands as complaint
use Rattle.query_model.specs.Faults.{TyperKind, TyperFault}
use Rattle.query_model.specs.Faults as fault
use Rattle.fault_model.specs.Refused as model
use Rattle.fault_model.specs.Refused.{kind_of_complaint, kind_asked, says_asked, says_by, refused_as, refused_of, sites_refused, reported_as, standing, AreOfValues, IsTold, AreRefused}
use Rattle.env_table.specs.declared.entries.Entry.{Entry}
use Rattle.env_table.specs.declared.faults.Fault.{Fault}
use Rattle.env_table.specs.declared.faults.FaultKind.{FaultKind}
use Rattle.env_table.specs.declared.faults.FaultKind.TheVariants as kind
use Rattle.analysis_api.specs.Faults as api
use Rattle.env_table.specs.declared.seen.Seen.{Seen}
use Rattle.typed_index.specs.Seen.{seen_at}
use Rattle.typing_state.specs.declared.parts.Parts.{Parts}
use Rattle.typing_state.specs.Goes.{faults_of}
use Rattle.typing_conditions.specs.Sights.{Sight, Letters, Report}
use Rattle.typing_conditions.specs.Carrying.{Asks}
use Rattle.binding_rows.specs.ItemRows.{AreOwned}
use Rattle.binding_rows.specs.Outside.{letters_left, ItemsCarried}
use Rattle.binding_rows.specs.Stopped.{StopsItems}
use Rattle.typing_conditions.specs.Locals as locals
use Rattle.typing_conditions.specs.Hiding.{ArePlaced, NoneDoubtful}
use Rattle.typing_conditions.specs.Judging.{kind_of, kind_of_demand, Says, IsOf, TellBy, TellAll}
use Rattle.typing_steps.specs.States.{is_warning, report_of, reports_of, sight, is_noted, type_in}
use Rattle.typing_steps.proofs.Schemes.{plain_nodes}
use Rattle.typing_rows.specs.Noted.{AreNoted}
use Rattle.site_laws.proofs.Texts.{AreSmall}
use Rattle.text_laws.proofs.Orderly.{values_orderly}
use Rattle.text_laws.proofs.Kept.{met, text_kept}
use Rattle.text_laws.proofs.Principal.{sure_principal}
use Rattle.text_laws.specs.Stopped.{IsStopped}
use Rattle.text_laws.specs.Texts.{text_asks}
use Rattle.text_laws.proofs.Stopped.{values_stopped}
use Rattle.text_laws.proofs.Messages.{values_message}
use Rattle.prelude_checks.proofs.FirstAscii.{first_ascii}
use Rattle.prelude_checks.proofs.FirstTypes.{first_constructors, first_made, first_reached, first_clean}
use Rattle.typing_conditions.proofs.Adequate.{kept_of}
use Rattle.module_steps.specs.declared.scenes.Scene.{Scene}
use Rattle.module_typing.specs.Items.{TakesNone, KeepsKnown, AllKeep, AddsValues}
use Rattle.text_analysis.specs.Weak.{AllAdd}
use Rattle.text_analysis.specs.Given.{operands_of, Given, Opens}
use Rattle.text_analysis.proofs.Values.{values_are_carried}

-- a report, as a fault
abbrev fault_at : Report → TyperFault
fault_at r = record { span = r.at; kind = api.kind_of r.kind; message = r.message }

complaint_kind : (c : Complaint) → api.kind_of (kind_of c) ≡ kind_of_complaint c
complaint_kind (complaint.unbound w x) = refl
complaint_kind (complaint.arity x n m) = refl
complaint_kind complaint.no_label = refl
complaint_kind (complaint.not_mutable x) = refl
complaint_kind (complaint.incomplete x) = refl
complaint_kind (complaint.twice x) = refl
complaint_kind (complaint.one_side x) = refl
complaint_kind complaint.too_large = refl
complaint_kind (complaint.cyclic x) = refl
complaint_kind (complaint.differs x) = refl
complaint_kind complaint.no_functor = refl
complaint_kind (complaint.no_abstract_type x n) = refl

demand_kind : (d : Demand) → api.kind_of (kind_of_demand d) ≡ kind_asked d
demand_kind (equal t u) = refl
demand_kind (test c b) = complaint_kind c
demand_kind (agrees c n s t) = complaint_kind c
demand_kind (matches A t) = refl
demand_kind (closes env s) = refl

-- the message of a complaint is fixed
complaint_says : (c : Complaint) (message : List ℕ) → says_by (kind_of_complaint c) message ≡ Some message
complaint_says (complaint.unbound w x) message = refl
complaint_says (complaint.arity x n m) message = refl
complaint_says complaint.no_label message = refl
complaint_says (complaint.not_mutable x) message = refl
complaint_says (complaint.incomplete x) message = refl
complaint_says (complaint.twice x) message = refl
complaint_says (complaint.one_side x) message = refl
complaint_says complaint.too_large message = refl
complaint_says (complaint.cyclic x) message = refl
complaint_says (complaint.differs x) message = refl
complaint_says complaint.no_functor message = refl
complaint_says (complaint.no_abstract_type x n) message = refl

demand_says : (d : Demand) (message : List ℕ) → Says d message → says_by (kind_asked d) message ≡ says_asked d
demand_says (equal t u) message is = refl
demand_says (test c b) message is = complaint_says c message ∙ ap Some is
demand_says (agrees c n s t) message is = complaint_says c message ∙ ap Some is
demand_says (matches A t) message is = refl
demand_says (closes env s) message is = refl

-- a report of a demand is its fault
report_refused : (at : Place) (d : Demand) (r : Report) → IsOf at d r → reported_as (fault_at r) ≡ refused_as at d
report_refused at d r of =
    let kind : api.kind_of r.kind ≡ kind_asked d = ap api.kind_of of.kind ∙ demand_kind d in
    let says : says_by (api.kind_of r.kind) r.message ≡ says_asked d = ap (λ k. says_by k r.message) kind ∙ demand_says d r.message of.message in
    λ i. record { at = of.place i; kind = kind i; says = says i }

-- the reports of conditions are what isn't kept of them
told_refused : (kept : Site → Bool) (cs : List Condition) (rs : List Report) → TellAll kept cs rs → map reported_as (map fault_at rs) ≡ refused_of kept cs
told_refused kept [] rs h = ap (λ us. map reported_as (map fault_at us)) h
told_refused kept (same t u ∷ cs) rs h = told_refused kept cs rs h
told_refused kept (instance s t ∷ cs) rs h = told_refused kept cs rs h
told_refused kept (made n t ∷ cs) rs h = told_refused kept cs rs h
told_refused kept (known t ∷ cs) rs h = told_refused kept cs rs h
told_refused kept (demand s at d ∷ cs) rs h = by (λ us told. told_refused kept cs us told) (kept s) h
  where
    by : ((us : List Report) → TellAll kept cs us → map reported_as (map fault_at us) ≡ refused_of kept cs) → (k : Bool) → TellBy k at d (λ later. TellAll kept cs later) rs → map reported_as (map fault_at rs) ≡ (if k then refused_of kept cs else refused_as at d ∷ refused_of kept cs)
    by others true h = others rs h
    by others false (r, later, is, of, rest) =
        ap (λ us. map reported_as (map fault_at us)) is ∙ (λ i. report_refused at d r of i ∷ others later rest i)
told_refused kept (treated n env ∷ cs) rs h = told_refused kept cs rs h

-- what is told but for warnings are the reports
warnings_alike : (k : FaultKind) → model.is_warning (api.kind_of k) ≡ is_warning k
warnings_alike kind.Bound = refl
warnings_alike kind.Equal = refl
warnings_alike kind.Arity = refl
warnings_alike kind.Label = refl
warnings_alike kind.Mutable = refl
warnings_alike kind.Complete = refl
warnings_alike kind.Unique = refl
warnings_alike kind.Sides = refl
warnings_alike kind.Range = refl
warnings_alike kind.Cycle = refl
warnings_alike kind.Reexport = refl
warnings_alike kind.Functor = refl
warnings_alike kind.With = refl
warnings_alike kind.Closing = refl
warnings_alike kind.Match = refl
warnings_alike kind.Missed = refl
warnings_alike kind.Unused = refl

reports_stand : (fs : List Fault) → standing (map api.typer_fault_of fs) ≡ map fault_at (reports_of fs)
reports_stand [] = refl
reports_stand (f ∷ fs) = ap (λ b. if b then standing (map api.typer_fault_of fs) else fault_at (report_of f) ∷ standing (map api.typer_fault_of fs)) (warnings_alike f.kind) ∙ by (is_warning f.kind) (reports_stand fs)
  where
    by : (b : Bool) → standing (map api.typer_fault_of fs) ≡ map fault_at (reports_of fs) → (if b then standing (map api.typer_fault_of fs) else fault_at (report_of f) ∷ standing (map api.typer_fault_of fs)) ≡ map fault_at (if b then reports_of fs else report_of f ∷ reports_of fs)
    by true others = others
    by false others = ap (λ rs. fault_at (report_of f) ∷ rs) others

-- whether a kind is that of two types that differ
abbrev is_equal : TyperKind → Bool
is_equal fault.equal = true
is_equal _ = false

-- the code has one kind for it
equal_alone : (k : FaultKind) → is_equal (api.kind_of k) ≡ true → k ≡ kind.Equal
equal_alone kind.Equal e = refl
equal_alone kind.Bound e = absurd (no_yes e)
equal_alone kind.Arity e = absurd (no_yes e)
equal_alone kind.Label e = absurd (no_yes e)
equal_alone kind.Mutable e = absurd (no_yes e)
equal_alone kind.Complete e = absurd (no_yes e)
equal_alone kind.Unique e = absurd (no_yes e)
equal_alone kind.Sides e = absurd (no_yes e)
equal_alone kind.Range e = absurd (no_yes e)
equal_alone kind.Cycle e = absurd (no_yes e)
equal_alone kind.Reexport e = absurd (no_yes e)
equal_alone kind.Functor e = absurd (no_yes e)
equal_alone kind.With e = absurd (no_yes e)
equal_alone kind.Closing e = absurd (no_yes e)
equal_alone kind.Match e = absurd (no_yes e)
equal_alone kind.Missed e = absurd (no_yes e)
equal_alone kind.Unused e = absurd (no_yes e)

-- there are as many sites
told_counted : (kept : Site → Bool) (cs : List Condition) (fs : List TyperFault) → map reported_as fs ≡ refused_of kept cs → length (sites_refused kept cs) ≡ length fs
told_counted kept cs fs e = left_counted kept cs ∙ sym (ap length e) ∙ length-map fs reported_as

-- items that are carried in one way report the same
tells_as : {E : Choice → Environment} {asks : Asks} {a b : Sight} {G H : Letters} (kept : Site → Bool) (cs : List Condition) (p q : ItemsCarried E asks a G b H) → q ≡ p → TellAll kept cs q.told → TellAll kept cs p.told
tells_as {E} {asks} {a} {b} {G} {H} kept cs p q e h = subst (λ (z : ItemsCarried E asks a G b H). TellAll kept cs z.told) e h

-- what holds of each site and the report of the same number holds of the sites and the faults, one by one
each_told : (P : Site → TyperFault → Type 0) (ss : List Site) (rs : List Report) → length ss ≡ length (map fault_at rs) → ((k : ℕ) (s : Site) (r : Report) → slice_get ss k ≡ Some s → slice_get rs k ≡ Some r → P s (fault_at r)) → AllZip P ss (map fault_at rs)
each_told P [] [] e each = tt
each_told P [] (r ∷ rs) e each = absurd (omega (arith, e))
each_told P (s ∷ ss) [] e each = absurd (omega (arith, e))
each_told P (s ∷ ss) (r ∷ rs) e each = (each 0 s r refl refl, each_told P ss rs (omega (arith, e)) (λ k t u f g. each (suc k) t u f g))

-- no item is too large
pub are_small : (ts : List Tree) → All (λ t. size_of t < 2 ^ 32) ts → AreSmall ts
are_small [] few = tt
are_small (t ∷ ts) few = (let lt = All-head (λ u. size_of u < 2 ^ 32) t ts few in omega arith, are_small ts (All-tail (λ u. size_of u < 2 ^ 32) t ts few))

-- items that are `let`, `;;` and exceptions without an argument leave it open to say that all is known of names
pub all_keep : (ts : List Tree) → has_values_alone ts ≡ true → are_bare ts ≡ true → AllKeep (operands_of ts)
all_keep [] e bare = tt
all_keep (node r x ps ∷ ts) e bare =
    let (first, others) = and_cases (is_value_row r) (has_values_alone ts) e in
    let (first_bare, others_bare) = and_cases (is_bare_item (node r x ps)) (are_bare ts) bare in
    (by r first first_bare, all_keep ts others others_bare)
  where
    by : (q : Row) → is_value_row q ≡ true → is_bare_item (node q x ps) ≡ true → KeepsKnown 0 (inner (node q x ps))
    by rows.let_row h b = inl refl
    by rows.break_row h b = inr (inl refl)
    by rows.exception_row h b = let f = constructor_bare 0 rows.exception_row x ps b in inr (inr (refl, subst TakesNone (sym f.at) f.none))
    by _ h b = absurd (no_yes h)

-- items that are `let` and `;;` add values alone
pub all_add : (ts : List Tree) → has_lets_alone ts ≡ true → AllAdd (operands_of ts)
all_add [] e = tt
all_add (node r x ps ∷ ts) e = let (first, others) = and_cases (is_let_row r) (has_lets_alone ts) e in (by r first, all_add ts others)
  where
    by : (q : Row) → is_let_row q ≡ true → AddsValues (inner (node q x ps))
    by rows.let_row h = inl refl
    by rows.break_row h = inr refl
    by _ h = absurd (no_yes h)

-- Numbers in an item are below 2^32.
pub all_placed : (at : Parts) → ArePlaced (sight at)
all_placed at = record {
  noted = λ i p h. noted_low i p (seen_at at.index i p) refl h;
  recorded = λ i p m e. typed_low i p m (seen_at at.index i p) refl e;
}
  where
    noted_low : (i p : ℕ) (o : Option Seen) → seen_at at.index i p ≡ o → is_noted o ≡ true → p < 2 ^ 32
    noted_low i p None e h = absurd (no_yes h)
    noted_low i p (Some z) e h = at.index.low i p z e

    typed_low : (i p m : ℕ) (o : Option Seen) → seen_at at.index i p ≡ o → type_in o ≡ Some m → p < 2 ^ 32
    typed_low i p m None e h = absurd (let z : None ≡ Some m = h in cc)
    typed_low i p m (Some z) e h = at.index.low i p z e

-- A report that two types differ has the message of its demand, from the first environment.
first_told : {env : Environment} {items : List Tree} {kept : Site → Bool} {s : Site} {r : Report} → IsFirst env → has_values_alone items ≡ true → are_bare items ≡ true → (r.kind ≡ kind.Equal → IsStopped env items kept s r) → IsTold env items kept s (fault_at r)
first_told {env} {r = r} first values bare x e = values_message first_constructors values bare (first_made env first) (first_ascii env first) (first_reached env first) first_clean (x (equal_alone r.kind (ap is_equal e)))

-- Of such items that are carried from the first environment, after which none of the letters that they left is doubtful, the faults are one for each demand that isn't kept.
carried_refused : {env : Environment} {items : List Tree} {a b : Sight} {G : Letters} (p : ItemsCarried (λ ch. env) (text_asks items) a [] b G) → AreOwned (items_of items) p.left → ((i k : ℕ) → a.types i k ≡ None) → IsSound a.nodes → AreOfValues items → locals.IsPlain b.nodes →
    NoneDoubtful (letters_left p.left) → ArePlaced b → StopsItems (λ ch. env) (text_asks items) a [] b G p.left p.judged p.told → IsFirst env → (fs : List TyperFault) → standing fs ≡ map fault_at p.told → AreRefused items fs
carried_refused {env} {items} p owned none sound t plain sure placed stops first fs told =
    let (h, principal, own, alike) = sure_principal {env = env} {text = items} p owned none sound t.values t.bare (are_small items t.few) plain sure placed in
    let kept = kept_of p.judged in
    let asked = conditions_of env items kept h.choice in
    let are : map reported_as (map fault_at p.told) ≡ refused_of kept asked = told_refused kept asked p.told (tells_as kept asked p h.carried alike (met h).tells) in
    let stopped = values_stopped {env = env} {text = items} p owned none sound t.values t.bare (are_small items t.few) plain sure placed stops in
    record {
      env = env;
      first = first;
      kept = kept;
      keeps = text_kept (values_orderly {env = env} {text = items} t.values) h;
      choice = h.choice;
      principal = principal;
      holds = (met h).holds;
      are = ap (map reported_as) told ∙ are;
      told = subst (AllZip (IsTold env items kept) (sites_refused kept asked)) (sym told)
          (each_told (IsTold env items kept) (sites_refused kept asked) p.told (told_counted kept asked (map fault_at p.told) are) (λ k s r here e. first_told first t.values t.bare (λ is. stopped k r e is h.choice s here)));
    }

-- So where items that are `let`, `;;` and such exceptions alone were typed from the state after the prelude, the faults are those of the demands that aren't kept, each at its place, of its kind, and with its message, where that is about names; and each that two types differ has the message of its own demand.
pub items_refused : {first : Parts} {env : List Entry} {items : List Tree} {last : Parts} {now : Scene} → Given first env items last now → Opens first env → IsPlain last.store.nodes → (names : Environment) → IsFirst names → AreOfValues items → AreRefused items (map api.typer_fault_of (faults_of last))
items_refused {first} {env} {items} {last} {now} given o plain names is_first t =
    let at = o.starts names is_first in
    let outside = at.starts.outside in
    let noted : AreNoted outside.older first = subst (λ U. AreNoted U first) (sym at.starts.older) at.noted in
    let done = (given [] (λ ch. names) (values_are_carried items t) o.aloud outside at.constants noted).done in
    let sure = done.clear (at.known, all_keep items t.values t.bare) (all_placed last) in
    carried_refused {env = names} {items = items} done.carried done.owners at.untyped outside.sound t (plain_nodes last.store.nodes plain) sure (all_placed last) (done.stops (at.known, all_keep items t.values t.bare)) is_first (map api.typer_fault_of (faults_of last))
    (reports_stand (faults_of last) ∙ ap (map fault_at) (done.carried.reports ∙ ap (λ rs. rs ++ done.carried.told) at.quiet))
