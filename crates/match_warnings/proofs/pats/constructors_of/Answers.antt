use Rattle.std.proofs.Common.{◌≡◌, ◌∙◌, map, sym, ap, subst, Vec, Global}
use Rattle.std.specs.Prelude.{IfSome}
use Rattle.type_terms.specs.Views.{path_of}
use Rattle.pattern_matrix.specs.Views.{members_of}
use Rattle.pattern_matrix.specs.declared.patterns.Built.{Built}
use Rattle.match_warnings.specs.Patterns.{AreShared, declared_member}
use Rattle.match_warnings.proofs.Finding.{ok_alone, ok_shared, members_made, shared_more}
use Rattle.match_warnings.proofs.pats.constructors_of.Goals as goal

pub returns-in_default : goal.returns-in_default
returns-in_default c =
    let ks = map declared_member c.args.constructors.now in
    ok_alone c.listed.result (λ r. members_of r.value.items) (λ members. IfSome c.args.declaration.now.origin (λ o. ks ≡ members (path_of o))) c.args.seen.now.items ks c.listed.ensures

pub returns-in-Some-known_constructors : goal.returns-in-Some-known_constructors
returns-in-Some-known_constructors c =
    ok_shared c.shared.result (λ r. r.value) (λ (v : Vec Built Global). members_of v.items) c.in-Some-known_constructors.known.now.value c.args.seen.now.items c.args.declaration.now.origin c.in-Some.origin _ (map declared_member c.args.constructors.now)
    c.in-Some.is c.deref-2.ensures.value (λ members shared. c.in-Some-known_constructors.ensures members (subst (AreShared members) (sym c.deref.ensures.value) shared)) c.shared.ensures

pub returns : goal.returns
returns c = λ members made shared.
    let is : members_of c.in_ok-shared.field-0.value.items ≡ members c.in_ok-copied.field-0.items =
    ap (λ (v : Vec Built Global). members_of v.items) c.in_ok-shared.ensures ∙ c.in_ok-all.ensures ∙ members_made members (map declared_member c.args.constructors.now) c.args.declaration.now.origin c.in-Some.origin c.in-Some.is made ∙ ap members (sym (c.in_ok-copied.ensures ∙ c.deref-3.ensures.value)) in
    (c.in_ok-all.ensures, shared_more members c.args.seen.now.items c.push.new.list.items _ c.in_ok-push.ensures.pushed shared is)
