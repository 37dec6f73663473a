-- `records::size_of` meets its contract: in each arm the kind is known.
use mathlib.Core.Path.{sym, ap}
use borrow.Author.Tests.{ne_eqb}
use Rattle.records.specs.Inner.{size_of}
use Rattle.records.proofs.size_of.Goals as goal

pub returns-in-1 : goal.returns-in-1
returns-in-1 c = sym (ap size_of c.in-1.is)

pub returns-in-2 : goal.returns-in-2
returns-in-2 c = sym (ap size_of c.in-2.is)

pub returns-in-3 : goal.returns-in-3
returns-in-3 c = sym (ap size_of c.in-3.is)

pub returns-in-4 : goal.returns-in-4
returns-in-4 c = sym (ap size_of c.in-4.is)

pub returns-in-5 : goal.returns-in-5
returns-in-5 c = sym (ap size_of c.in-5.is)

pub returns-in-6 : goal.returns-in-6
returns-in-6 c = sym (ap size_of c.in-6.is)

pub returns-in-7 : goal.returns-in-7
returns-in-7 c = sym (ap size_of c.in-7.is)

pub returns-in-8 : goal.returns-in-8
returns-in-8 c = sym (ap size_of c.in-8.is)

pub returns-in_default : goal.returns-in_default
returns-in_default c =
    simp (
      ne_eqb _ _ c.in_default.in_default-own.rest.0.0.0.0.0.0.0.1,
      ne_eqb _ _ c.in_default.in_default-own.rest.0.0.0.0.0.0.1,
      ne_eqb _ _ c.in_default.in_default-own.rest.0.0.0.0.0.1,
      ne_eqb _ _ c.in_default.in_default-own.rest.0.0.0.0.1,
      ne_eqb _ _ c.in_default.in_default-own.rest.0.0.0.1,
      ne_eqb _ _ c.in_default.in_default-own.rest.0.0.1,
      ne_eqb _ _ c.in_default.in_default-own.rest.0.1,
      ne_eqb _ _ c.in_default.in_default-own.rest.1,
    )
