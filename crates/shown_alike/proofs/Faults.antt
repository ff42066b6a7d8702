-- The faults of a text of `let`, exceptions and `;;` are one list, with their messages, but for warnings.
use Rattle.std.proofs.Common.{◌≡◌, ◌∙◌, Bool, true, false, List, [], ◌∷◌, map, refl, sym, ap, subst, if◌then◌else◌}
use Rattle.std.proofs.Math.Path.{fun_ext}
use Rattle.std.proofs.lemmas.Option.{same_Some}
use Rattle.std.specs.List.{AllZip}
use Rattle.std.specs.Prelude.{ℕ}
use Rattle.tree_model.specs.Trees.{Tree}
use Rattle.query_model.specs.Faults.{TyperKind, TyperFault}
use Rattle.query_model.specs.Faults as fault
use Rattle.signature_model.specs.Entries.{Environment}
use Rattle.typing_model.specs.Demands.{Site, Complaint, Demand, equal, test, agrees, matches, closes, Condition}
use Rattle.typing_model.specs.Demands as complaint
use Rattle.typing_model.specs.Plain.{has_values_alone}
use Rattle.typing_model.specs.Typings.{conditions_of, IsKept}
use Rattle.fault_model.specs.Refused.{kind_of_complaint, kind_asked, Refused, refused_as, refused_of, sites_refused, says_by, reported_as, standing, IsTold, AreRefused}
use Rattle.typing_laws.proofs.Bools.{no_yes}
use Rattle.typing_laws.proofs.Decided.{are_one}
use Rattle.typing_laws.proofs.Together.{on_signatures}
use Rattle.typing_laws.proofs.Quiet.{Quiet, silence, q_demand, q_same, q_instance, q_made, q_known, q_treated}
use Rattle.typing_laws.proofs.QuietTexts.{text_quiet, no_closings}
use Rattle.typing_laws.proofs.Settled.{values_plain}
use Rattle.demand_laws.proofs.Texts.{values_refused_alike}
use Rattle.demand_laws.proofs.Left.{values_left_alike}
use Rattle.shown_alike.proofs.Messages.{values_message_one}

-- whether a fault of a kind is on signatures
abbrev is_on_signatures : TyperKind → Bool
is_on_signatures fault.matching = true
is_on_signatures fault.closing = true
is_on_signatures _ = false

complaint_no_signature : (c : Complaint) → is_on_signatures (kind_of_complaint c) ≡ false
complaint_no_signature (complaint.unbound w x) = refl
complaint_no_signature (complaint.arity x n m) = refl
complaint_no_signature complaint.no_label = refl
complaint_no_signature (complaint.not_mutable x) = refl
complaint_no_signature (complaint.incomplete x) = refl
complaint_no_signature (complaint.twice x) = refl
complaint_no_signature (complaint.one_side x) = refl
complaint_no_signature complaint.too_large = refl
complaint_no_signature (complaint.cyclic x) = refl
complaint_no_signature (complaint.differs x) = refl
complaint_no_signature complaint.no_functor = refl
complaint_no_signature (complaint.no_abstract_type x n) = refl

-- it is where its demand is
by_demand : (d : Demand) → is_on_signatures (kind_asked d) ≡ on_signatures d
by_demand (equal t u) = refl
by_demand (test c b) = complaint_no_signature c
by_demand (agrees c n s t) = complaint_no_signature c
by_demand (matches a t) = refl
by_demand (closes e s) = refl

-- none of some faults is on signatures
abbrev NoneOnSignatures : List Refused → Type 0
NoneOnSignatures [] = Unit {0}
NoneOnSignatures (r ∷ rs) = (is_on_signatures r.kind ≡ false) × NoneOnSignatures rs

none_refused : (kept : Site → Bool) {cs : List Condition} → Quiet cs → NoneOnSignatures (refused_of kept cs)
none_refused kept silence = tt
none_refused kept (q_demand {s = s} {p = p} {d = d} {cs = cs} e h) = by (kept s) (none_refused kept h)
  where
    by : (b : Bool) → NoneOnSignatures (refused_of kept cs) → NoneOnSignatures (if b then refused_of kept cs else refused_as p d ∷ refused_of kept cs)
    by true others = others
    by false others = (by_demand d ∙ e, others)
none_refused kept (q_same h) = none_refused kept h
none_refused kept (q_instance h) = none_refused kept h
none_refused kept (q_made h) = none_refused kept h
none_refused kept (q_known h) = none_refused kept h
none_refused kept (q_treated h) = none_refused kept h

-- messages of one kind are one, where those that two types differ are
one_said : (k : TyperKind) (m n : List ℕ) → is_on_signatures k ≡ false → says_by k m ≡ says_by k n → (k ≡ fault.equal → m ≡ n) → m ≡ n
one_said fault.equal m n none e types = types refl
one_said fault.matching m n none e types = absurd (no_yes (sym none))
one_said fault.closing m n none e types = absurd (no_yes (sym none))
one_said fault.bound m n none e types = same_Some m n e
one_said fault.arity m n none e types = same_Some m n e
one_said fault.label m n none e types = same_Some m n e
one_said fault.mutable m n none e types = same_Some m n e
one_said fault.complete m n none e types = same_Some m n e
one_said fault.unique m n none e types = same_Some m n e
one_said fault.sides m n none e types = same_Some m n e
one_said fault.range m n none e types = same_Some m n e
one_said fault.cycle m n none e types = same_Some m n e
one_said fault.reexport m n none e types = same_Some m n e
one_said fault.functor m n none e types = same_Some m n e
one_said fault.with m n none e types = same_Some m n e
one_said fault.missed m n none e types = same_Some m n e
one_said fault.unused m n none e types = same_Some m n e

module _ (env : Environment) (items : List Tree) (kept : Site → Bool) (values : has_values_alone items ≡ true) where
  -- two faults that a demand's site has are one
  one_fault : (s : Site) (r : Refused) (f g : TyperFault) → reported_as f ≡ r → reported_as g ≡ r → is_on_signatures r.kind ≡ false → IsTold env items kept s f → IsTold env items kept s g → f ≡ g
  one_fault s r f g p q none told other =
      let kind : f.kind ≡ g.kind = ap (λ (z : Refused). z.kind) (p ∙ sym q) in
      let here : f.span ≡ g.span = ap (λ (z : Refused). z.at) (p ∙ sym q) in
      let says : says_by f.kind f.message ≡ says_by f.kind g.message = ap (λ (z : Refused). z.says) (p ∙ sym q) ∙ ap (λ k. says_by k g.message) (sym kind) in
      let message : f.message ≡ g.message = one_said f.kind f.message g.message (ap (λ (z : Refused). is_on_signatures z.kind) p ∙ none) says (λ e. values_message_one values (told e) (other (sym kind ∙ e))) in
      (λ i. record { span = here i; kind = kind i; message = message i })

  -- and so are two lists of them
  faults_one : (ss : List Site) (rs : List Refused) (fs gs : List TyperFault) → map reported_as fs ≡ rs → map reported_as gs ≡ rs → NoneOnSignatures rs → AllZip (IsTold env items kept) ss fs → AllZip (IsTold env items kept) ss gs → fs ≡ gs
  faults_one [] rs [] [] p q none told others = refl
  faults_one [] rs (f ∷ fs) gs p q none told others = absurd told
  faults_one [] rs [] (g ∷ gs) p q none told others = absurd others
  faults_one (s ∷ ss) rs [] gs p q none told others = absurd told
  faults_one (s ∷ ss) rs (f ∷ fs) [] p q none told others = absurd others
  faults_one (s ∷ ss) [] (f ∷ fs) (g ∷ gs) p q none told others = absurd (cc)
  faults_one (s ∷ ss) (r ∷ rs) (f ∷ fs) (g ∷ gs) p q none told others =
      let one : f ≡ g = one_fault s r f g (cc) (cc) none.0 told.0 others.0 in
      let more : fs ≡ gs = faults_one ss rs fs gs (cc) (cc) none.1 told.1 others.1 in
      (λ i. one i ∷ more i)

-- So the faults of such a text but for warnings are one list, with their messages, from whatever kept demands and typing they are read, where the names in scope before it are one.
pub values_faults_one : {items : List Tree} {faults others : List TyperFault} → has_values_alone items ≡ true → (f : AreRefused items faults) (g : AreRefused items others) → f.env ≡ g.env → standing faults ≡ standing others
values_faults_one {items} {faults} {others} values f g e =
    faults_one f.env items f.kept values (sites_refused f.kept (conditions_of f.env items f.kept f.choice)) (refused_of f.kept (conditions_of f.env items f.kept f.choice)) (standing faults) (standing others)
    f.are (g_are ∙ sym (values_refused_alike f.env items values f.kept f.choice g.choice))
    (none_refused f.kept (text_quiet f.env items f.kept f.choice (values_plain items values)))
    f.told (subst (λ ss. AllZip (IsTold f.env items f.kept) ss (standing others)) (sym (values_left_alike f.env items values f.kept f.choice g.choice)) g_told)
  where
    keeps : IsKept f.env items g.kept
    keeps = subst (λ E. IsKept E items g.kept) (sym e) g.keeps

    same : f.kept ≡ g.kept
    same = fun_ext (are_one f.env items f.kept g.kept f.keeps keeps (λ s x y same. absurd (no_yes (sym (no_closings f.env items f.kept (values_plain items values) s) ∙ x))))

    g_are : map reported_as (standing others) ≡ refused_of f.kept (conditions_of f.env items f.kept g.choice)
    g_are = subst (λ k. map reported_as (standing others) ≡ refused_of k (conditions_of f.env items k g.choice)) (sym same) (subst (λ E. map reported_as (standing others) ≡ refused_of g.kept (conditions_of E items g.kept g.choice)) (sym e) g.are)

    g_told : AllZip (IsTold f.env items f.kept) (sites_refused f.kept (conditions_of f.env items f.kept g.choice)) (standing others)
    g_told = subst (λ k. AllZip (IsTold f.env items k) (sites_refused k (conditions_of f.env items k g.choice)) (standing others)) (sym same) (subst (λ E. AllZip (IsTold E items g.kept) (sites_refused g.kept (conditions_of E items g.kept g.choice)) (standing others)) (sym e) g.told)
