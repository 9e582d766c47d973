-- What some words spell.
use Rattle.std.proofs.Common.{◌≡◌, [], ◌∷◌, None, Some, codes, refl}
use Rattle.wm_run.specs.declared.turn.Turn.TheVariants.{Drain, DrainAt, Step}
use Rattle.wm_command.specs.Numbers.{number_of, pieces}
use Rattle.wm_command.specs.Starts.{start_of, start_with}
use Rattle.wm_command.specs.Turns.{turns_of}
use Rattle.wm_command.specs.Words.{rounds_of}

repeated_steps : turns_of (codes "0*2,1*3") ≡ Some (Step 0 ∷ Step 0 ∷ Step 1 ∷ Step 1 ∷ Step 1 ∷ [])
unfolding turns_of pieces number_of
repeated_steps = refl

drains : turns_of (codes "d1/2,d3,4") ≡ Some (DrainAt 1 2 ∷ Drain 3 ∷ Step 4 ∷ [])
unfolding turns_of pieces number_of
drains = refl

zeros_first : turns_of (codes "0*02,007") ≡ Some (Step 0 ∷ Step 0 ∷ Step 7 ∷ [])
unfolding turns_of pieces number_of
zeros_first = refl

empty_item : turns_of (codes "0,,1") ≡ None
unfolding turns_of pieces number_of
empty_item = refl

no_item : turns_of [] ≡ None
unfolding turns_of pieces number_of
no_item = refl

no_time : turns_of (codes "0*0") ≡ None
unfolding turns_of pieces number_of
no_time = refl

sign : turns_of (codes "+1") ≡ None
unfolding turns_of pieces number_of
sign = refl

repeated_twice : turns_of (codes "0*2*3") ≡ None
unfolding turns_of pieces number_of
repeated_twice = refl

drain_of_three : turns_of (codes "d1/2/3") ≡ None
unfolding turns_of pieces number_of
drain_of_three = refl

large_thread : turns_of (codes "4294967296") ≡ None
unfolding turns_of pieces number_of
large_thread = refl

arguments : start_of (codes "f:0:18446744073709551615") ≡ Some (start_with (codes "f") (0 ∷ 18446744073709551615 ∷ []))
unfolding start_of pieces number_of
arguments = refl

no_argument : start_of (codes "f") ≡ Some (start_with (codes "f") [])
unfolding start_of pieces number_of
no_argument = refl

empty_argument : start_of (codes "f:") ≡ None
unfolding start_of pieces number_of
empty_argument = refl

large_argument : start_of (codes "f:18446744073709551616") ≡ None
unfolding start_of pieces number_of
large_argument = refl

most_rounds : rounds_of (codes "10000") ≡ Some 10000
unfolding number_of
most_rounds = refl

too_many_rounds : rounds_of (codes "10001") ≡ None
unfolding number_of
too_many_rounds = refl

no_rounds : rounds_of (codes "0") ≡ None
unfolding number_of
no_rounds = refl
