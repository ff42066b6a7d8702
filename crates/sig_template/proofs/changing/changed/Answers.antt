use Rattle.std.specs.Prelude.{Result, Ok, Err, IfOk, List}
use Rattle.std.specs.declared.alloc.AllocError.{AllocError}
use Rattle.std.specs.declared.rc.Rc.{Rc}
use Rattle.std.specs.declared.alloc.Global.{Global}
use Rattle.type_nodes.specs.Nodes.{Node}
use Rattle.env_table.specs.declared.entries.Sig.{Sig}
use Rattle.type_reading.specs.declared.changes.Changes.{Changes}
use Rattle.type_reading.specs.declared.copies.Copies.{Copies}
use Rattle.type_reading.specs.Copying.{KeepsCopies, AreDeclared, change_by}
use Rattle.type_reading.proofs.Extending.{extends_refl}
use Rattle.sig_template.specs.Changed.{IsChangedSig}
use Rattle.sig_template.specs.Live.{AreLive}
use Rattle.sig_template.specs.Turns.{Turns}
use Rattle.sig_template.proofs.changing.changed.Goals as goal

turned : (r : Result (Rc Sig Global) AllocError) (c : Changes) (old : Sig) (a b : List Node) (x y : Copies) → (AreDeclared a c.real.items → KeepsCopies a c x) →
    IfOk r (λ s. Turns c (λ ns. AreLive ns old) (λ ns. IsChangedSig ns (change_by c) old s.value) a b x y) → IfOk r (λ s. AreDeclared a c.real.items → AreLive a old → IsChangedSig b (change_by c) old s.value)
turned (Ok s) c old a b x y keeps p = λ reals live. (p.done (keeps reals) (record { earlier = a; extends = extends_refl a; held = live })).1 b (extends_refl b)
turned (Err e) c old a b x y keeps p = tt

pub returns-clause-changed : goal.returns-clause-changed
returns-clause-changed c = turned c.sig.result c.args.changes.now c.args.sig.now c.args.at.now.store.nodes c.sig.new.at.store.nodes c.new-copies.result c.sig.new.copies
    (c.new-copies.ensures c.args.changes.now) c.sig.ensures.changed

pub returns-clause-goes : goal.returns-clause-goes
returns-clause-goes c = c.sig.ensures.goes
