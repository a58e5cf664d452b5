-- The test of two keys: keys that pass are equal part by part, and a key passes it against itself.
use mathlib.Core.Path.{◌≡◌, refl}
use mathlib.Core.Bool.{true, ◌&&◌, beq}
use lib.Dec.{T, eqb, eqb→eq}
use lib.Ieee.{eq}
use lib.Ieee.Fits.{and_l, and_r}
use borrow.Author.Tests.{eq-eqb}
use Rattle.gaussian_core.proofs.SameFloat.{beq_same, beq_self}
use Rattle.methods.specs.Keys.{MethodKey}
use Rattle.methods.specs.Keys.{same_key}

-- The test of two keys, taken apart.
pub record Same (a b : MethodKey) : Type 0 where
  pub kind : a.kind ≡ b.kind
  pub full : a.full ≡ b.full
  pub first : a.first ≡ b.first
  pub second : a.second ≡ b.second
  pub deviation : T (eq a.deviation b.deviation)

pub same_parts : (a b : MethodKey) → T (same_key a b) → Same a b
same_parts a b h =
    let kinds = eqb a.kind b.kind in
    let flags = beq a.full b.full in
    let firsts = eqb a.first b.first in
    let seconds = eqb a.second b.second in
    let floats = eq a.deviation b.deviation in
    let four = and_l (kinds && flags && firsts && seconds) floats h in
    let three = and_l (kinds && flags && firsts) seconds four in
    let two = and_l (kinds && flags) firsts three in
    record {
      kind = eqb→eq a.kind b.kind (and_l kinds flags two);
      full = beq_same a.full b.full (and_r kinds flags two);
      first = eqb→eq a.first b.first (and_r (kinds && flags) firsts three);
      second = eqb→eq a.second b.second (and_r (kinds && flags && firsts) seconds four);
      deviation = and_r (kinds && flags && firsts && seconds) floats h;
    }

-- A key passes the test against itself, if the deviation is a number.
pub same_itself : (a : MethodKey) → eq a.deviation a.deviation ≡ true → same_key a a ≡ true
same_itself a e = rw (eq-eqb a.kind a.kind refl, beq_self a.full, eq-eqb a.first a.first refl, eq-eqb a.second a.second refl, e)
