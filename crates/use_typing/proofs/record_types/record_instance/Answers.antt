use Rattle.std.proofs.Common.{inl, inr, refl}
use Rattle.typing_state.proofs.Going.{goes_trans}
use Rattle.use_typing.proofs.Recording.{root_taken_new}
use Rattle.use_typing.proofs.record_types.record_instance.Goals as goal

pub returns-in-Some-clause-takes : goal.returns-in-Some-clause-takes
returns-in-Some-clause-takes c = record {
  made = c.instance.new.self;
  node = c.in_ok-instance.instance.0;
  instance = c.in_ok-instance.ensures.instance;
  sound = c.in_ok-instance.ensures.sound;
  rest = c.instance.ensures.rest;
  part = inr (c.if-declaration-eq0.false, inl (c.in-Some.ensures.some.0, c.in-Some.ensures.some.1, c.in-Some.ensures.some.2, refl));
}

pub returns-in-None-clause-takes : goal.returns-in-None-clause-takes
returns-in-None-clause-takes c =
    root_taken_new c.var.result c.args.declaration.now c.args.at.now c.instance.new.self c.var.new.self c.in_ok-instance.instance.0 c.in_ok-instance.ensures.instance c.in_ok-instance.ensures.sound c.instance.ensures.rest c.if-declaration-eq0.false c.in-None.ensures.none

pub returns-then-declaration-eq0-clause-takes : goal.returns-then-declaration-eq0-clause-takes
returns-then-declaration-eq0-clause-takes c = record {
  made = c.instance.new.self;
  node = c.in_ok-instance.instance.0;
  instance = c.in_ok-instance.ensures.instance;
  sound = c.in_ok-instance.ensures.sound;
  rest = c.instance.ensures.rest;
  part = inl (c.if-declaration-eq0.true, refl, refl);
}

pub returns-in-Some-clause-goes : goal.returns-in-Some-clause-goes
returns-in-Some-clause-goes c = c.instance.ensures.goes

pub returns-in-None-clause-goes : goal.returns-in-None-clause-goes
returns-in-None-clause-goes c = goes_trans c.args.at.now c.instance.new.self c.var.new.self c.instance.ensures.goes c.var.ensures.goes

pub returns-in_err-instance-clause-goes : goal.returns-in_err-instance-clause-goes
returns-in_err-instance-clause-goes c = c.instance.ensures.goes

pub returns-then-declaration-eq0-clause-goes : goal.returns-then-declaration-eq0-clause-goes
returns-then-declaration-eq0-clause-goes c = c.instance.ensures.goes
