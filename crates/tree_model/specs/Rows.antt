-- The rows of the grammar, by name, each with what it stands for. Several rows of the table share a name, as the infix operators of all levels do.

-- a row of the grammar
pub data Row : Type 0 where
  program_row : Row
  let_row : Row  -- let b and b
  type_row : Row  -- type d and d
  exception_row : Row  -- exception c
  module_row : Row  -- module M = m
  modtype_row : Row  -- module type S = y
  open_row : Row  -- open M
  include_row : Row  -- include M
  break_row : Row  -- ;;
  val_row : Row  -- val x : t
  gmodule_row : Row  -- module M : y, in a signature
  decl_row : Row  -- h = r
  head_row : Row  -- 'a t
  alias_row : Row  -- a type, as a declaration's right side
  variant_row : Row  -- A | B of t
  record_row : Row  -- { l : t; m : t }
  con_row : Row  -- A of t
  label_row : Row  -- l : t, mutable l : t
  with_row : Row  -- type h = t
  tvar_row : Row  -- 'a
  tcon_row : Row  -- t, M.t
  tparen_row : Row  -- ( t ), ( t, t )
  tapp_row : Row  -- t list
  ttuple_row : Row  -- t * t
  tarrow_row : Row  -- t -> t
  pname_row : Row  -- x
  pany_row : Row  -- _
  pconst_row : Row  -- 1, "a", true
  pneg_row : Row  -- - 1
  pcon_row : Row  -- A, M.A
  pparen_row : Row  -- ( p ), ( p : t )
  plist_row : Row  -- [ p; p ]
  precord_row : Row  -- { l = p; _ }
  papp_row : Row  -- A p
  pcons_row : Row  -- p :: p
  ptuple_row : Row  -- p, p
  por_row : Row  -- p | p
  pas_row : Row  -- p as x
  qfield_row : Row  -- l = p
  binding_row : Row  -- p = e, f p p : t = e
  case_row : Row  -- p when e -> e
  ffield_row : Row  -- l = e
  name_row : Row  -- x
  econ_row : Row  -- A
  epath_row : Row  -- M.x, M.A
  econst_row : Row  -- 1, "a", true
  hole_row : Row  -- _
  eparen_row : Row  -- ( e ), ( e : t )
  ebegin_row : Row  -- begin e end
  elist_row : Row  -- [ e; e ]
  erecord_row : Row  -- { l = e }, { e with l = e }
  prefix_row : Row  -- ! e
  field_row : Row  -- e . l
  eapp_row : Row  -- e e e: the head and its arguments
  eassert_row : Row  -- assert e
  ewhile_row : Row  -- while e do e done
  efor_row : Row  -- for x = e to e do e done
  eneg_row : Row  -- - e
  infix_row : Row  -- e + e
  econs_row : Row  -- e :: e
  etuple_row : Row  -- e, e
  eset_row : Row  -- e . l <- e
  eif_row : Row  -- if e then e else e
  eseq_row : Row  -- e; e
  elet_row : Row  -- let b in e
  ematch_row : Row  -- match e with c | c
  etry_row : Row  -- try e with c | c
  efun_row : Row  -- fun p p -> e
  efunction_row : Row  -- function c | c
  mpath_row : Row  -- M, M.N
  mstruct_row : Row  -- struct i end
  mparen_row : Row  -- ( m ), ( m : y )
  mapp_row : Row  -- m ( m )
  mfunctor_row : Row  -- functor (X : y) -> m
  ypath_row : Row  -- S, M.S
  ysig_row : Row  -- sig g end
  yparen_row : Row  -- ( y )
  ywith_row : Row  -- y with w and w
  yfunctor_row : Row  -- functor (X : y) -> y
