mod AcceptedPlan
