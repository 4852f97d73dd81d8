-- `calls::dark_halves` meets its contract: four counts of 32 bits.
use Rattle.std.proofs.Common.{◌≡◌, ℕ, ◌^◌, ◌<◌, Bool, List, get_or, Fits, w32, arith, rules}
use Rattle.units.specs.Parameters.{screen_of, halves_to_vdisplay}
use Rattle.units.specs.declared.Screen.{Screen}
use Rattle.calls.proofs.dark_halves.Goals as goal

few : (params : List ℕ) (b : Bool) → ((i : ℕ) → Fits w32 (get_or params i 0)) → (s : Screen) → s ≡ screen_of params b → halves_to_vdisplay s < 2 ^ 40
unfolding screen_of
few params b fits s e = rw e (omega (arith, fits 6, fits 5, fits 7, fits 8))

pub overflow_add-halves : goal.overflow_add-halves
overflow_add-halves c = omega (arith, few c.args.n.params _ (λ i. search rules) _ c.screen_of-s.ensures.screen)

pub overflow_add-halves-2 : goal.overflow_add-halves-2
overflow_add-halves-2 c = omega (arith, few c.args.n.params _ (λ i. search rules) _ c.screen_of-s.ensures.screen)

pub overflow_add-halves-3 : goal.overflow_add-halves-3
overflow_add-halves-3 c = omega (arith, few c.args.n.params _ (λ i. search rules) _ c.screen_of-s.ensures.screen)
