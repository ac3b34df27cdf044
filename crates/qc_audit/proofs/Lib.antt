mod Trails
mod Walking
mod Spelled
mod Proper
mod Parts
mod Judged
mod Fronts
mod SavedForms
