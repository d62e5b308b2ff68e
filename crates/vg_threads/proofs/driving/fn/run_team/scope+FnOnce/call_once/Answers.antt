use Rattle.vg_threads.proofs.driving.fn.run_team.scope+FnOnce.call_once.Goals as goal

-- what the closure asks of its types is what the call is told of them, behind six facts on lifetimes
pub scope-requires : goal.scope-requires
scope-requires g c = let sends = c.requires.1.1.1.1.1.1 in (sends.0, (sends.1, (sends.2, (sends.3, (sends.4, sends.5)))))
