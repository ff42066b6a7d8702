use Rattle.std.proofs.Common.{◌≡◌, true, false, ◌∷◌, ◌++◌, List, [], sym, ap, ◌∙◌, reverse, append_assoc, length, arith, subst}
use Rattle.std.specs.declared.rc.Rc.{Rc}
use Rattle.std.specs.declared.alloc.Global.{Global}
use Rattle.env_table.specs.declared.entries.Entry.{Entry}
use Rattle.sig_template.specs.Structures.{is_replaced, newest_alone, AreMet, entries_of}
use Rattle.sig_template.proofs.Newest.{entries_reversed, newest_kept, newest_dropped}
use Rattle.sig_template.proofs.structures.newest_alone.Goals as goal

moved_on : (es older newer rest : List (Rc Entry Global)) (e : Rc Entry Global) → es ≡ rest ++ newer → rest ≡ older ++ e ∷ [] → es ≡ older ++ e ∷ newer
moved_on es older newer rest e p q = p ∙ ap (λ xs. xs ++ newer) q ∙ append_assoc older (e ∷ []) newer

all_seen : (es newer rest : List (Rc Entry Global)) → es ≡ rest ++ newer → length rest ≡ 0 → es ≡ newer
all_seen es newer [] p q = p
all_seen es newer (x ∷ xs) p q = absurd (omega arith)

pub loop-entry-preserved-in_ok-push : goal.loop-entry-preserved-in_ok-push
loop-entry-preserved-in_ok-push c =
    let e : Rc Entry Global = c.in-Some.entry.now in
    let newer : List (Rc Entry Global) = c.loop-entry.invariant.newer in
    let here : c.deref.result.now ≡ e.value = c.deref.ensures in
    let new : is_replaced e.value (entries_of newer) ≡ false = subst (λ (x : Entry). is_replaced x (entries_of newer) ≡ false) here (sym (c.in_ok-is_older.ensures.older (entries_of newer) c.loop-entry.invariant.met) ∙ c.if-not-branch.true) in
    record {
      newer = e ∷ newer;
      both = moved_on c.args.entries.now c.in-Some.older.now newer c.loop-entry.rest.now e c.loop-entry.invariant.both c.in-Some.ensures.cases.0;
      kept = ap (λ xs. reverse (entries_of xs)) c.in_ok-push.ensures.pushed ∙ newest_kept c.loop-entry.kept.items newer c.in_ok-shared.field-0 e c.in_ok-shared.ensures new c.loop-entry.invariant.kept;
      met = subst (λ (x : Entry). AreMet c.is_older.new.self (x ∷ entries_of newer)) here (c.in_ok-is_older.ensures.met (entries_of newer) c.loop-entry.invariant.met);
    }

pub loop-entry-preserved : goal.loop-entry-preserved
loop-entry-preserved c =
    let e : Rc Entry Global = c.in-Some.entry.now in
    let newer : List (Rc Entry Global) = c.loop-entry.invariant.newer in
    let here : c.deref.result.now ≡ e.value = c.deref.ensures in
    let old : is_replaced e.value (entries_of newer) ≡ true = subst (λ (x : Entry). is_replaced x (entries_of newer) ≡ true) here (sym (c.in_ok-is_older.ensures.older (entries_of newer) c.loop-entry.invariant.met) ∙ c.if-not-branch.false) in
    record {
      newer = e ∷ newer;
      both = moved_on c.args.entries.now c.in-Some.older.now newer c.loop-entry.rest.now e c.loop-entry.invariant.both c.in-Some.ensures.cases.0;
      kept = newest_dropped c.loop-entry.kept.items newer e old c.loop-entry.invariant.kept;
      met = subst (λ (x : Entry). AreMet c.is_older.new.self (x ∷ entries_of newer)) here (c.in_ok-is_older.ensures.met (entries_of newer) c.loop-entry.invariant.met);
    }

pub returns : goal.returns
returns c =
    let newer : List (Rc Entry Global) = c.loop-entry.invariant.newer in
    let all : c.args.entries.now ≡ newer = all_seen c.args.entries.now newer c.loop-entry.rest.now c.loop-entry.invariant.both c.in_default.ensures.cases in
    ap entries_of c.reverse.ensures.items ∙ entries_reversed c.loop-entry.kept.items ∙ c.loop-entry.invariant.kept ∙ ap (λ xs. newest_alone (entries_of xs)) (sym all)
